-- `line_bytes` meets its contract: the bytes of the parts.
-- Assumes nothing.
use Rattle.differences.proofs.LineTexts.{line_counted, line_short}
use borrow.Author.Rules.{rules}
use Rattle.differences.proofs.lines.line_bytes.Goals as goal

pub returns : goal.returns
returns c = (search (rules, line_counted), search (rules, line_short))
