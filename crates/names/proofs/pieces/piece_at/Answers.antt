-- `piece_at` meets its contract: eight bytes, fewer, or none.
-- Assumes nothing.
use Rattle.names.proofs.WordBytes.{none_there, eight_there, fewer_there}
use mathlib.Core.Path.{refl}
use borrow.Author.Rules.{rules}
use Rattle.names.proofs.pieces.piece_at.Goals as goal

pub returns-then-text-at : goal.returns-then-text-at
returns-then-text-at c = search (rules, none_there)

pub returns-then-left-ge8 : goal.returns-then-left-ge8
returns-then-left-ge8 c = eight_there _ c.args.at (λ i. (c.type_inv.text i).fits) _ (search rules) (search rules)

pub returns : goal.returns
returns c = fewer_there _ c.args.at (λ i. (c.type_inv.text i).fits) _ _ refl (search rules) (search rules)
