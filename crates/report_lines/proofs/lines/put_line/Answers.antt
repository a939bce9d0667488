-- `put_line` meets its contract: a word and a number, and LF.
-- Assumes nothing.
use Rattle.report_lines.proofs.PutBytes.{then}
use borrow.Author.Rules.{rules}
use Rattle.report_lines.proofs.lines.put_line.Goals as goal

pub returns : goal.returns
returns c = (search (rules, then), search rules)
