-- The operations on settings and their numbers, with their refusals: 1 for an unknown device, 4 for a setting
-- that the device does not have.
use Rattle.std.specs.Prelude.{ℕ, cond, ltb}
use Rattle.part.specs.Outcome.{Outcome}
use Rattle.part.specs.Outcome.Outcome.{accepted, refused}
use Rattle.part.specs.Sizes.{if_known}
use Rattle.part.specs.declared.Device.{Device}
use Rattle.settings.specs.Settings.{has_setting}
use Rattle.settings.specs.Order.{count_of, number_of, setting_of}
use Rattle.settings.specs.declared.Setting.{Setting}

-- Refusal 1, and 4 exactly where the device has no such setting.
abbrev pub if_setting : {A : Type 0} → Device → Setting → Outcome A → Outcome A
if_setting d s answer = if_known d (cond (has_setting d s) answer (refused 4 0))

unfoldable pub count_of_settings : Device → Outcome ℕ
count_of_settings d = if_known d (accepted (count_of d))

unfoldable pub setting_of_number : Device → ℕ → Outcome Setting
setting_of_number d number = if_known d (cond (ltb number (count_of d)) (accepted (setting_of d number)) (refused 4 0))

unfoldable pub number_of_setting : Device → Setting → Outcome ℕ
number_of_setting d s = if_setting d s (accepted (number_of d s))

-- A call by setting number goes through the setting of that number.
abbrev pub through : {A : Type 0} → Outcome Setting → (Setting → Outcome A) → Outcome A
through (accepted s) answer = answer s
through (refused number value) answer = refused number value
