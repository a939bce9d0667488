-- `differences` meets its contract: the tests in their order, then the first line and the others.
-- Assumes nothing.
use borrow.Author.Rules.{rules}
use Rattle.part.proofs.Refused.{written_with}
use Rattle.differences.proofs.Answers.{no_device, old_wrong, new_wrong, too_short, put_there}
use Rattle.differences.proofs.differences.Goals as goal

pub returns-in_err-part : goal.returns-in_err-part
returns-in_err-part c = search (rules, written_with, no_device)

pub returns-then-old-bytes : goal.returns-then-old-bytes
returns-then-old-bytes c = rw (← c.in_ok-part.ensures) (search (rules, old_wrong))

pub returns-then-new-bytes : goal.returns-then-new-bytes
returns-then-new-bytes c = rw (← c.in_ok-part.ensures) (search (rules, new_wrong))

pub returns-then-text-needed : goal.returns-then-text-needed
returns-then-text-needed c = rw (← c.in_ok-part.ensures) (search (rules, too_short))

pub returns : goal.returns
returns c = rw (← c.in_ok-part.ensures) (search (rules, put_there))
