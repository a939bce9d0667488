-- `first_count` meets its contract: the fields start behind the first `*`.
-- Assumes nothing.
use Rattle.report.proofs.Choice.{no_star, behind_star}
use borrow.Author.Rules.{rules}
use Rattle.report.proofs.first_count.Goals as goal

pub returns-in_err-star : goal.returns-in_err-star
returns-in_err-star c = search (rules, no_star)

pub returns : goal.returns
returns c = search (rules, behind_star)
