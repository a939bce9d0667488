-- `rows_out` meets its contract: the rows so far are put.
-- Assumes nothing.
use Rattle.cells.specs.Cells.{repeat}
use Rattle.jedec_writer.specs.Pattern.{row_lines}
use Rattle.jedec_writer.specs.Spots.{Lined}
use Rattle.jedec_writer.proofs.text.rows_out.Given as goal

abbrev pub invariant-loop-row : goal.invariant-loop-row
invariant-loop-row l = Lined (repeat l.row (row_lines l.area)) l.image l.initial.out l.out l.fn.from l.next
