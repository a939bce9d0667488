-- Document 01's bench cases that are marked P as one table, with what it is for a row to hold.
-- They are for two blocks of the small class.
use Rattle.std.specs.Prelude.{◌≡◌, List, [], ◌∷◌, ℕ}
use Rattle.part.specs.Outcome.Outcome.{accepted, refused}
use Rattle.part.specs.Cases.{two_small}
use Rattle.addresses.specs.Convert.{address_of_fuse, fuse_of_address}

pub data Case : Type 0 where
  -- A fuse is a bit of an address, and the other way round.
  is : (fuse address bit : ℕ) → Case
  -- A fuse is refused 3.
  no_fuse : (fuse : ℕ) → Case
  -- An address is refused 3, at every bit.
  no_address : (address : ℕ) → Case

abbrev pub Holds : Case → Type 0
Holds (is fuse address bit) =
    (address_of_fuse two_small fuse ≡ accepted (address, bit)) × (fuse_of_address two_small address bit ≡ accepted fuse)
Holds (no_fuse fuse) = address_of_fuse two_small fuse ≡ refused 3 0
Holds (no_address address) = (bit : ℕ) → fuse_of_address two_small address bit ≡ refused 3 0

abbrev pub AllHold : List Case → Type 0
AllHold [] = Unit {0}
AllHold (c ∷ cs) = Holds c × AllHold cs

abbrev pub cases : List Case
cases =
    is 0 0 0
    ∷ is 71 11 7
    ∷ is 72 12 0
    ∷ is 107 20 5
    ∷ is 108 32 0
    ∷ is 7775 2292 5
    ∷ is 7776 4096 0
    ∷ is 7784 4097 0
    ∷ is 9072 8192 0
    ∷ is 18143 12684 6
    ∷ no_fuse 18144
    ∷ no_address 5
    ∷ no_address 24
    ∷ no_address 2304
    ∷ no_address 16384
    ∷ []
