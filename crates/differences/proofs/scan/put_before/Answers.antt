-- `put_before` meets its contract: a line with other bytes behind it where there is room before the end, else the line alone.
-- Assumes nothing.
use Rattle.differences.proofs.LaidText.{until_later}
use borrow.Author.Rules.{rules}
use Rattle.differences.proofs.scan.put_before.Goals as goal

pub returns-then-end-at-ge64 : goal.returns-then-end-at-ge64
returns-then-end-at-ge64 c = search (rules, until_later)

pub returns : goal.returns
returns c = search (rules, until_later)
