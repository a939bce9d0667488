-- `followed` meets its contract: the second word stands above the first.
-- Assumes nothing.
use Rattle.names.proofs.WordBytes.{sum_fits, both_held}
use borrow.Author.Rules.{rules}
use Rattle.names.proofs.pieces.followed.Goals as goal

pub overflow_add-result : goal.overflow_add-result
overflow_add-result c = record { fits = search (rules, sum_fits) }

pub returns : goal.returns
returns c = (both_held _ _ _ _ (search rules) (search rules) (search rules), search rules)
