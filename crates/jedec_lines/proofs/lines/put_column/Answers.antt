-- `put_column` meets its contract: a space and the characters of a word, by the two kinds of column.
-- Assumes nothing.
use Rattle.jedec_lines.proofs.Columns.{wide_column, narrow_column}
use borrow.Author.Rules.{rules}
use Rattle.jedec_lines.proofs.lines.put_column.Goals as goal

pub returns-then-width-eq8 : goal.returns-then-width-eq8
returns-then-width-eq8 c = search (rules, wide_column)

pub returns-else-width-eq8 : goal.returns-else-width-eq8
returns-else-width-eq8 c = search (rules, narrow_column)
