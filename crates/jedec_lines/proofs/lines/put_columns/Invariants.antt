-- `put_columns` meets its contract: the columns so far are stored, each behind the one before it.
-- Assumes nothing.
use Rattle.jedec_lines.proofs.LineText.{ColumnsPut}
use Rattle.jedec_lines.proofs.lines.put_columns.Given as goal

abbrev pub invariant-loop-width : goal.invariant-loop-width
invariant-loop-width l = ColumnsPut l.word l.width-items l.initial.out l.out l.at l.width-index l.rest l.next
