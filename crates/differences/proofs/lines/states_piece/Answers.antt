-- `states_piece` meets its contract: by the two states.
-- Assumes nothing.
use Rattle.differences.proofs.LineTexts.{states_held}
use borrow.Author.Rules.{rules}
use Rattle.differences.proofs.lines.states_piece.Goals as goal

pub returns : goal.returns
returns c = search (rules, states_held)
