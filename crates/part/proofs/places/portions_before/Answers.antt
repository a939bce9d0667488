-- `portions_before` meets its contract: a block is whole portions.
-- Assumes nothing.
use borrow.Author.Rules.{rules}
use Rattle.part.proofs.Portions.{portions_whole, portions_small}
use Rattle.part.proofs.places.portions_before.Goals as goal

pub overflow_mul-result : goal.overflow_mul-result
overflow_mul-result c = record { fits = search (rules, portions_small) }

pub returns : goal.returns
returns c = search (rules, portions_whole)
