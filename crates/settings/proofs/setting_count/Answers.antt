-- `setting_count` meets its contract: the test is the definition's.
-- Assumes nothing.
use mathlib.Core.Path.{◌≡◌}
use mathlib.Core.Bool.{true}
use Prim.Native.Nat.{ℕ}
use borrow.Author.Rules.{rules}
use Rattle.part.specs.Outcome.Outcome.{accepted}
use Rattle.part.specs.Device.{known}
use Rattle.part.specs.declared.Device.{Device}
use Rattle.part.proofs.Refused.{refused_with}
use Rattle.settings.specs.Order.{count_of}
use Rattle.settings.specs.Operations.{count_of_settings}
use Rattle.settings.proofs.Asked.{no_device}
use Rattle.settings.proofs.setting_count.Goals as goal

the_count : (d : Device) (x : ℕ) → known d ≡ true → x ≡ count_of d → accepted x ≡ count_of_settings d
unfolding count_of_settings
the_count d x k e = rw (k, e)

pub returns-in_err-part : goal.returns-in_err-part
unfolding count_of_settings
returns-in_err-part c = search (rules, refused_with, no_device)

pub returns : goal.returns
returns c = rw (← c.in_ok-part.ensures) (search (rules, the_count))
