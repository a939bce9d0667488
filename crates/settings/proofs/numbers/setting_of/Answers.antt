-- `setting_of` meets its contract: the device has the setting of each number below the count.
-- Assumes nothing.
use mathlib.Core.Path.{◌≡◌}
use mathlib.Core.Bool.{true}
use Prim.Native.Nat.{ℕ, ◌<◌}
use borrow.Author.Rules.{rules}
use Rattle.part.specs.declared.Device.{Device}
use Rattle.settings.specs.Settings.{has_setting}
use Rattle.settings.specs.Order.{count_of, setting_of}
use Rattle.settings.specs.declared.Setting.{Setting}
use Rattle.settings.proofs.Numbering.{number_inverse}
use Rattle.settings.proofs.numbers.setting_of.Goals as goal

its_device_has : (d : Device) (x : ℕ) (s : Setting) → x < count_of d → s ≡ setting_of d x → has_setting d s ≡ true
its_device_has d x s h e = rw e (number_inverse d x h).0

pub invariant_of-result : goal.invariant_of-result
invariant_of-result c = search (rules, its_device_has)
