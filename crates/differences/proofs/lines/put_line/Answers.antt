-- `put_line` meets its contract: four parts, one behind another.
-- Assumes nothing.
use Rattle.differences.proofs.LaidText.{line_laid, line_ends}
use borrow.Author.Rules.{rules}
use Rattle.differences.proofs.lines.put_line.Goals as goal

pub returns : goal.returns
returns c = (search (rules, line_laid), search (rules, line_ends))
