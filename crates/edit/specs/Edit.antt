-- Reading and setting a setting, in an image and in a readout: unless refused, setting puts a value's states there and
-- changes no other bit; reading answers the value whose states stand there (document 01, the words of demand 3).
use Rattle.std.specs.Prelude.{ℕ, cond, List, ltb, length}
use Rattle.std.proofs.Math.Option.{Option}
use Rattle.std.proofs.Math.Option.Option.{none, some}
use Rattle.part.specs.Outcome.{Outcome}
use Rattle.part.specs.Outcome.Outcome.{accepted, refused}
use Rattle.part.specs.Device.{image_bytes}
use Rattle.part.specs.Sizes.{if_known, if_length}
use Rattle.part.specs.declared.Device.{Device}
use Rattle.settings.specs.Settings.{has_setting}
use Rattle.settings.specs.declared.Setting.{Setting}
use Rattle.patterns.specs.Patterns.{pattern_in}
use Rattle.values.specs.declared.Value.{Value}
use Rattle.setting_values.specs.Kinds.{kind_of, value_of}
use Rattle.setting_bits.specs.declared.Layout.{Layout}
use Rattle.setting_bits.specs.declared.Layout.TheVariants.{Image, Readout}
use Rattle.setting_bits.specs.SettingBits.{bytes_of, pattern_at, with_pattern, above_of}

-- The lowest index of a byte that holds the setting and has a bit above its width, or the
-- length: an image has no such bits.
unfoldable pub above_in : Device → Layout → List ℕ → Setting → ℕ
above_in d Image bytes s = image_bytes d
above_in d Readout bytes s = above_of d bytes s

-- Refusal 6 exactly where a byte that holds the setting has a bit above its width: the lowest such index.
abbrev pub if_clean : {A : Type 0} → Device → Layout → List ℕ → Setting → Outcome A → Outcome A
if_clean d layout bytes s answer =
    cond (ltb (above_in d layout bytes s) (bytes_of d layout)) (refused 6 (above_in d layout bytes s)) answer

-- Refusals 1, 2, 4, in that order.
abbrev pub if_there : {A : Type 0} → Device → Layout → List ℕ → Setting → Outcome A → Outcome A
if_there d layout bytes s answer =
    if_known d (if_length (length bytes) (bytes_of d layout) (cond (has_setting d s) answer (refused 4 0)))

-- Reading a setting: 1, 2, 4, 6.
unfoldable pub read_in : Device → Layout → List ℕ → Setting → Outcome Value
read_in d layout bytes s =
    if_there d layout bytes s (if_clean d layout bytes s (accepted (value_of d s (pattern_at d layout bytes s))))

-- Refusal 5 exactly where the setting has no such value.
abbrev pub if_value : {A : Type 0} → Option ℕ → Outcome A → Outcome A
if_value none answer = refused 5 0
if_value (some pattern) answer = answer

-- Setting it to a value: 1, 2, 4, 5, 6.
unfoldable pub set_in : Device → Layout → List ℕ → Setting → Value → Outcome (Unit {0})
set_in d layout bytes s v =
    if_there d layout bytes s (if_value (pattern_in (kind_of d s) v) (if_clean d layout bytes s (accepted tt)))

abbrev pub pattern_or0 : Option ℕ → ℕ
pattern_or0 none = 0
pattern_or0 (some pattern) = pattern

-- The bytes with the setting set to a value that it has.
unfoldable pub with_value : Device → Layout → List ℕ → Setting → Value → List ℕ
with_value d layout bytes s v = with_pattern d layout bytes s (pattern_or0 (pattern_in (kind_of d s) v))
