-- `first_bytes` meets its contract: digits and eight bytes.
-- Assumes nothing.
use Rattle.differences.proofs.LineTexts.{first_counted, first_short}
use borrow.Author.Rules.{rules}
use Rattle.differences.proofs.lines.first_bytes.Goals as goal

pub returns : goal.returns
returns c = (search (rules, first_counted), search (rules, first_short))
