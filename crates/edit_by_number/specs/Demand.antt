-- Demand 3 of the operations by setting number and pattern: the sentences of `Demand3` in specs/Demand.antt of `edit`,
-- where a setting is called by its number and reads as its pattern. The law is `holds_by_number` in proofs/Laws.antt.
use Rattle.std.specs.Prelude.{◌≡◌, true, List, ℕ, ◌^◌, ◌<◌, length, get_or}
use Rattle.part.specs.Device.{known, image_bytes}
use Rattle.part.specs.declared.Device.{Device}
use Rattle.settings.specs.Order.{count_of, setting_of}
use Rattle.setting_places.specs.Places.{bits_of, fuse_of}
use Rattle.edit.specs.Demand.{Calls, calls_by, Demand3}
use Rattle.edit_by_number.specs.ByNumber.{read_pattern, set_pattern, with_numbered}

-- Any known device, any image of it, the number of any setting of that device and any pattern of its bits.
pub record NumberTaken (d : Device) (image : List ℕ) (number pattern : ℕ) : Type 0 where
  pub device : known d ≡ true
  pub size : length image ≡ image_bytes d
  pub bytes : (i : ℕ) → get_or image i 0 < 2 ^ 8
  pub setting : number < count_of d
  pub fits : pattern < 2 ^ bits_of (setting_of d number)

-- What the definitions give, and the demand of it; `other` is the number of another setting that is read.
abbrev pub calls_by_number : Device → (image : List ℕ) → (number pattern other : ℕ) → Calls ℕ
calls_by_number d image number pattern other =
    calls_by d (λ layout bytes. set_pattern d layout bytes number pattern)
    (λ layout bytes. with_numbered d layout bytes number pattern) (read_pattern d) image number other

abbrev pub DemandByNumber : Device → (image : List ℕ) → (number pattern other : ℕ) → Calls ℕ → Type 0
DemandByNumber d image number pattern other c =
    Demand3 d (λ u. u < count_of d) (read_pattern d) image number pattern pattern (bits_of (setting_of d number))
    (fuse_of d (setting_of d number)) other c
