-- `put_piece` meets its contract: eight bytes, of which the first are the piece.
-- Assumes nothing.
use Rattle.differences.proofs.LaidText.{piece_laid}
use borrow.Author.Rules.{rules}
use Rattle.differences.proofs.lines.put_piece.Goals as goal

pub returns : goal.returns
returns c = (search (rules, piece_laid), search rules)
