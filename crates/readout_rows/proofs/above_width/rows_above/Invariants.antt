-- `rows_above` meets its contract: the rows are looked at one after another.
-- Assumes nothing.
use Rattle.readout_rows.specs.Widths.{row_widths}
use Rattle.readout_rows.proofs.FirstOver.{Looked}
use Rattle.readout_rows.proofs.above_width.rows_above.Given as goal

abbrev pub invariant-loop-k : goal.invariant-loop-k
invariant-loop-k l = Looked (row_widths l.area) l.rows l.count l.k
