-- What each answer of the code says: number and value of every refusal, as the papers give them, and the result.
-- A fuse that no setting has is no refusal: it is `none`.
use Rattle.std.specs.Prelude as rust
use Rattle.std.specs.Prelude.{ℕ, Result}
use Rattle.std.proofs.Math.Option.{Option}
use Rattle.part.specs.Outcome.{Outcome}
use Rattle.part.specs.Answer.{outcome_of}
use Rattle.part.specs.declared.Refusal.{Refusal}
use Rattle.settings.specs.declared.Setting.{Setting}
use Rattle.setting_places.specs.Answer.{option_of}
use Rattle.fuse_settings.specs.declared.SettingBit.{SettingBit}

abbrev pub named_outcome : Result (rust.Option SettingBit) Refusal → Outcome (Option (Setting × ℕ))
named_outcome = outcome_of (option_of (λ x. (x.setting, x.bit)))
