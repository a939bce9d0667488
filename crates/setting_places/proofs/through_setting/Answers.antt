-- `through_setting` meets its contract: the setting of the number, and then the answer for its bit.
-- Assumes nothing.
use mathlib.Core.Path.{◌≡◌}
use mathlib.Core.Bool.{true, false}
use Prim.Native.Nat.{ℕ, ◌≤◌}
use borrow.Author.Tests.{le-ltb}
use Rattle.part.specs.Outcome.Outcome.{refused}
use Rattle.part.specs.Device.{known}
use Rattle.part.specs.declared.Device.{Device}
use Rattle.part.proofs.Refused.{refused_with}
use Rattle.settings.specs.Order.{count_of}
use Rattle.settings.specs.Operations.{setting_of_number}
use Rattle.setting_places.specs.Operations.{located_by_number}
use Rattle.setting_places.proofs.AtPlace.{for_setting}
use borrow.Author.Rules.{rules}
use Rattle.setting_places.proofs.through_setting.Goals as goal

no_device : (d : Device) (x bit : ℕ) → known d ≡ false → refused 1 0 ≡ located_by_number d x bit
unfolding located_by_number setting_of_number
no_device d x bit k = rw k

no_setting_lem : (d : Device) (x bit : ℕ) → known d ≡ true → count_of d ≤ x → refused 4 0 ≡ located_by_number d x bit
unfolding located_by_number setting_of_number
no_setting_lem d x bit k h = rw (k, le-ltb x (count_of d) h)

pub returns-in_err-part : goal.returns-in_err-part
returns-in_err-part c = search (rules, refused_with, no_device)

pub returns-in_err-there : goal.returns-in_err-there
returns-in_err-there c = rw (← c.in_ok-part.ensures) (search (rules, refused_with, no_setting_lem))

pub returns : goal.returns
returns c = rw (← c.in_ok-part.ensures) (search (rules, for_setting))
