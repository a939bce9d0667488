-- What each answer of the code says: number and value of every refusal, as the papers give them, and the result.
-- Assumes nothing.
use Rattle.std.specs.Prelude.{ℕ, Result}
use Rattle.part.specs.Outcome.{Outcome}
use Rattle.part.specs.Answer.{outcome_of}
use Rattle.part.specs.declared.Refusal.{Refusal}
use Rattle.settings.specs.declared.Setting.{Setting}
use Rattle.settings.specs.declared.SettingNumber.{SettingNumber}

abbrev pub setting_outcome : Result Setting Refusal → Outcome Setting
setting_outcome = outcome_of (λ s. s)

abbrev pub setting_number_outcome : Result SettingNumber Refusal → Outcome ℕ
setting_number_outcome = outcome_of (λ x. x.0)
