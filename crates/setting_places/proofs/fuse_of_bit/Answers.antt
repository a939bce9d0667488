-- `fuse_of_bit` meets its contract: the tests are the definition's.
-- Assumes nothing.
use borrow.Author.Rules.{rules}
use Rattle.part.proofs.Refused.{refused_with}
use Rattle.settings.proofs.Asked.{no_device, no_setting}
use Rattle.setting_places.specs.Operations.{located_bit}
use Rattle.setting_places.proofs.fuse_of_bit.Goals as goal

pub returns-in_err-part : goal.returns-in_err-part
unfolding located_bit
returns-in_err-part c = search (rules, refused_with, no_device)

pub returns-in_err-there : goal.returns-in_err-there
unfolding located_bit
returns-in_err-there c = rw (← c.in_ok-part.ensures) (search (rules, refused_with, no_setting))
