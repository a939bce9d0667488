-- `put_sum` meets its contract: a word, four hex digits, LF.
-- Assumes nothing.
use Rattle.report_lines.proofs.PutBytes.{hex_line}
use borrow.Author.Rules.{rules}
use Rattle.report_lines.proofs.lines.put_sum.Goals as goal

pub returns : goal.returns
returns c = search (rules, hex_line)
