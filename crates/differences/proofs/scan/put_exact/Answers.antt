-- `put_exact` meets its contract: the line is made in bytes of its own and copied.
-- Assumes nothing.
use Rattle.differences.proofs.LineTexts.{part_fits, part_laid}
use borrow.Author.Rules.{rules}
use Rattle.differences.proofs.scan.put_exact.Goals as goal

pub put-requires : goal.put-requires
put-requires c = search (rules, part_fits)

pub returns : goal.returns
returns c = search (rules, part_laid)
