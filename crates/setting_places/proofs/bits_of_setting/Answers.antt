-- `bits_of_setting` meets its contract: the tests are the definition's.
-- Assumes nothing.
use borrow.Author.Rules.{rules}
use Rattle.part.proofs.Refused.{refused_with}
use Rattle.settings.proofs.Asked.{no_device, no_setting, the_setting}
use Rattle.setting_places.specs.Operations.{bits_of_setting}
use Rattle.setting_places.proofs.bits_of_setting.Goals as goal

pub returns-in_err-part : goal.returns-in_err-part
unfolding bits_of_setting
returns-in_err-part c = search (rules, refused_with, no_device)

pub returns-in_err-there : goal.returns-in_err-there
unfolding bits_of_setting
returns-in_err-there c = rw (← c.in_ok-part.ensures) (search (rules, refused_with, no_setting))

pub returns : goal.returns
unfolding bits_of_setting
returns c = rw (← c.in_ok-part.ensures, ← c.in_ok-there.ensures.0, ← c.in_ok-there.ensures.1) (search (rules, the_setting))
