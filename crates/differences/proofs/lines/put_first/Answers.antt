-- `put_first` meets its contract: digits, then eight bytes.
-- Assumes nothing.
use Rattle.differences.proofs.LineTexts.{first_laid}
use borrow.Author.Rules.{rules}
use Rattle.differences.proofs.lines.put_first.Goals as goal

pub returns : goal.returns
returns c = search (rules, first_laid)
