-- Values and patterns of the settings of a device, with their refusals: 1, 4, and 5 for a pattern that does not fit, a
-- value of another kind, a name that this setting does not have, or Unassigned carrying a pattern that has a name.
use Rattle.std.specs.Prelude.{ℕ, ◌^◌, cond, Result, ltb}
use Rattle.std.proofs.Math.Option.{Option}
use Rattle.std.proofs.Math.Option.Option.{none, some}
use Rattle.part.specs.Outcome.{Outcome}
use Rattle.part.specs.Outcome.Outcome.{accepted, refused}
use Rattle.part.specs.Answer.{outcome_of}
use Rattle.part.specs.declared.Device.{Device}
use Rattle.part.specs.declared.Refusal.{Refusal}
use Rattle.settings.specs.Operations.{if_setting}
use Rattle.settings.specs.declared.Setting.{Setting}
use Rattle.setting_places.specs.Places.{bits_of}
use Rattle.patterns.specs.Patterns.{pattern_in}
use Rattle.values.specs.declared.Value.{Value}
use Rattle.setting_values.specs.Kinds.{kind_of, value_of}

abbrev pub value_outcome : Result Value Refusal → Outcome Value
value_outcome = outcome_of (λ v. v)

unfoldable pub value_of_pattern : Device → Setting → ℕ → Outcome Value
value_of_pattern d s pattern =
    if_setting d s (cond (ltb pattern (2 ^ bits_of s)) (accepted (value_of d s pattern)) (refused 5 0))

-- The pattern that stands for a value (`pattern_iff`), or refusal 5.
abbrev pub if_pattern : Option ℕ → Outcome ℕ
if_pattern (some pattern) = accepted pattern
if_pattern none = refused 5 0

unfoldable pub pattern_of_value : Device → Setting → Value → Outcome ℕ
pattern_of_value d s v = if_setting d s (if_pattern (pattern_in (kind_of d s) v))
