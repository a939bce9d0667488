-- `count_digits` meets its contract: the last of seven digits.
-- Assumes nothing.
use Rattle.names.proofs.WordBytes.{count_held, few_count}
use borrow.Author.Rules.{rules}
use Rattle.names.proofs.pieces.count_digits.Goals as goal

pub returns : goal.returns
returns c = (search (rules, few_count, count_held), search (rules, few_count))
