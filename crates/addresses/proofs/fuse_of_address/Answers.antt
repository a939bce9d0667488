-- `fuse_of_address` meets its contract: the tests are those of a valid address and of a bit within its width.
-- Assumes nothing.
use mathlib.Core.Path.{◌≡◌, ◌∙◌, sym}
use mathlib.Core.Bool.{Bool, true, false, and-false}
use Prim.Native.Nat.{ℕ, ◌<◌, ◌≤◌}
use native.Mathlib.Omega.{arith}
use borrow.Author.Rules.{rules}
use borrow.Author.Tests.{lt-ltb, le-ltb, eq-eqb, ne_eqb}
use Rattle.part.specs.Outcome.Outcome.{accepted, refused}
use Rattle.part.specs.Device.{known}
use Rattle.part.specs.Place.{has_place, has_byte, width_of, fuse_of_place}
use Rattle.addresses.specs.Address.{address_of_byte, byte_of_address, valid}
use Rattle.addresses.specs.Convert.{fuse_of_address}
use Rattle.part.specs.declared.Device.{Device}
use Rattle.part.specs.declared.BytePlace.{BytePlace}
use Rattle.part.proofs.Facts.{and_iff}
use Rattle.part.proofs.Refused.{refused_with}
use Rattle.addresses.proofs.fuse_of_address.Goals as goal

no_device : (d : Device) (address bit : ℕ) → known d ≡ false → refused 1 0 ≡ fuse_of_address d address bit
unfolding fuse_of_address
no_device d address bit k = rw k

-- The answer by cases: what the code has found at each return, and the definition's answer.
module _ (d : Device) (address bit : ℕ) (k : known d ≡ true) (byte : BytePlace) (named : byte ≡ byte_of_address address) where
  no_byte : (t : Bool) → t ≡ has_byte d byte → t ≡ false → refused 3 0 ≡ fuse_of_address d address bit
  unfolding fuse_of_address valid
  no_byte t e h = rw (k, ← named, ← e, h, and-false)

  other_address : (composed : ℕ) → composed ≡ address_of_byte byte → (composed ≡ address → ⊥) → refused 3 0 ≡ fuse_of_address d address bit
  unfolding fuse_of_address valid
  other_address composed e h = rw (k, ← named, ne_eqb (address_of_byte byte) address (λ s. h (e ∙ s)))

  no_bit_lem : (width : ℕ) → width ≡ width_of byte → width ≤ bit → refused 3 0 ≡ fuse_of_address d address bit
  unfolding fuse_of_address
  no_bit_lem width e h = rw (k, ← named, le-ltb bit (width_of byte) (omega arith), and-false)

  the_fuse : (t : Bool) (composed width fuse : ℕ) → t ≡ has_byte d byte → t ≡ true → composed ≡ address_of_byte byte → composed ≡ address
      → width ≡ width_of byte → bit < width → fuse ≡ fuse_of_place d (record { byte = byte; bit = bit })
      → accepted fuse ≡ fuse_of_address d address bit
  unfolding fuse_of_address valid
  the_fuse t composed width fuse e1 h1 e2 h2 e3 h3 e4 =
      rw (k, ← named, eq-eqb (address_of_byte byte) address (sym e2 ∙ h2), ← e1, h1, lt-ltb bit (width_of byte) (omega arith), e4)

has : (d : Device) (byte : BytePlace) (t : Bool) → t ≡ has_byte d byte → t ≡ true → has_byte d byte ≡ true
has d byte t e h = sym e ∙ h

has_place_lem : (d : Device) (byte : BytePlace) (t : Bool) (bit width : ℕ) → t ≡ has_byte d byte → t ≡ true → width ≡ width_of byte
    → bit < width → has_place d (record { byte = byte; bit = bit }) ≡ true
unfolding has_place
has_place_lem d byte t bit width e h f hb = (and_iff _ _).1 (has d byte t e h, lt-ltb bit (width_of byte) (omega arith))

pub returns-in_err-part : goal.returns-in_err-part
returns-in_err-part c = search (rules, refused_with, no_device)

pub returns-then-not-has_byte : goal.returns-then-not-has_byte
returns-then-not-has_byte c = rw (← c.in_ok-part.ensures) (search (rules, no_byte))

pub returns-then-ne : goal.returns-then-ne
returns-then-ne c = rw (← c.in_ok-part.ensures) (search (rules, other_address))

pub returns-then-width_of-bit : goal.returns-then-width_of-bit
returns-then-width_of-bit c = rw (← c.in_ok-part.ensures) (search (rules, no_bit_lem))

pub fuse_of_place-requires : goal.fuse_of_place-requires
fuse_of_place-requires c = rw c.in_ok-part.ensures (search (rules, has_place_lem))

pub returns : goal.returns
returns c = rw (← c.in_ok-part.ensures) (search (rules, the_fuse))
