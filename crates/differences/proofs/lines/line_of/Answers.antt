-- `line_of` meets its contract: four parts.
-- Assumes nothing.
use Rattle.differences.proofs.LineTexts.{fuse_small, line_spelled}
use borrow.Author.Rules.{rules}
use Rattle.differences.proofs.lines.line_of.Goals as goal

pub count_digits-requires : goal.count_digits-requires
count_digits-requires c = search (rules, fuse_small)

pub returns : goal.returns
returns c = search (rules, line_spelled)
