-- Reading and setting a setting, in an image and in a readout, by setting number and pattern: 4 for a number at or over
-- the count, 5 for a pattern of 2^width or more, the other refusals and the bits as by setting and value.
use Rattle.std.specs.Prelude.{ℕ, ◌^◌, cond, List, ltb, length}
use Rattle.part.specs.Outcome.{Outcome}
use Rattle.part.specs.Outcome.Outcome.{accepted, refused}
use Rattle.part.specs.Sizes.{if_known, if_length}
use Rattle.part.specs.declared.Device.{Device}
use Rattle.settings.specs.Order.{count_of, setting_of}
use Rattle.settings.specs.declared.Setting.{Setting}
use Rattle.setting_places.specs.Places.{bits_of}
use Rattle.setting_bits.specs.declared.Layout.{Layout}
use Rattle.setting_bits.specs.SettingBits.{bytes_of, pattern_at, with_pattern}
use Rattle.edit.specs.Edit.{if_clean}

-- Refusals 1, 2, 4, in that order.
abbrev pub if_number : {A : Type 0} → Device → Layout → List ℕ → ℕ → (Setting → Outcome A) → Outcome A
if_number d layout bytes number answer =
    if_known d
    (if_length (length bytes) (bytes_of d layout)
    (cond (ltb number (count_of d)) (answer (setting_of d number)) (refused 4 0)))

unfoldable pub read_pattern : Device → Layout → List ℕ → ℕ → Outcome ℕ
read_pattern d layout bytes number =
    if_number d layout bytes number (λ s. if_clean d layout bytes s (accepted (pattern_at d layout bytes s)))

unfoldable pub set_pattern : Device → Layout → List ℕ → (number pattern : ℕ) → Outcome (Unit {0})
set_pattern d layout bytes number pattern =
    if_number d layout bytes number
    (λ s. cond (ltb pattern (2 ^ bits_of s)) (if_clean d layout bytes s (accepted tt)) (refused 5 0))

unfoldable pub with_numbered : Device → Layout → List ℕ → (number pattern : ℕ) → List ℕ
with_numbered d layout bytes number pattern = with_pattern d layout bytes (setting_of d number) pattern
