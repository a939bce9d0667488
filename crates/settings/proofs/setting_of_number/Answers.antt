-- `setting_of_number` meets its contract: the tests are the definition's.
-- Assumes nothing.
use mathlib.Core.Path.{◌≡◌}
use mathlib.Core.Bool.{true}
use Prim.Native.Nat.{ℕ, ◌<◌, ◌≤◌}
use borrow.Author.Tests.{lt-ltb, le-ltb}
use Rattle.part.specs.Outcome.Outcome.{accepted, refused}
use Rattle.part.specs.Device.{known}
use Rattle.part.specs.declared.Device.{Device}
use Rattle.part.proofs.Refused.{refused_with}
use Rattle.settings.specs.Order.{count_of, setting_of}
use Rattle.settings.specs.Operations.{setting_of_number}
use Rattle.settings.specs.declared.Setting.{Setting}
use Rattle.settings.proofs.Asked.{no_device}
use borrow.Author.Rules.{rules}
use Rattle.settings.proofs.setting_of_number.Goals as goal

module _ (d : Device) (x : ℕ) (k : known d ≡ true) where
  no_setting_lem : count_of d ≤ x → refused 4 0 ≡ setting_of_number d x
  unfolding setting_of_number
  no_setting_lem h = rw (k, le-ltb x (count_of d) h)

  the_setting : (s : Setting) → x < count_of d → s ≡ setting_of d x → accepted s ≡ setting_of_number d x
  unfolding setting_of_number
  the_setting s h g = rw (k, lt-ltb x (count_of d) h, g)

pub returns-in_err-part : goal.returns-in_err-part
unfolding setting_of_number
returns-in_err-part c = search (rules, refused_with, no_device)

pub returns-in_err-there : goal.returns-in_err-there
returns-in_err-there c = rw (← c.in_ok-part.ensures) (search (rules, refused_with, no_setting_lem))

pub returns : goal.returns
returns c = rw (← c.in_ok-part.ensures) (search (rules, the_setting))
