-- `pairs_out` meets its contract: a loop whose invariant is `FilledOut`.
-- Assumes nothing.
use Rattle.readout_rows.specs.Widths.{pair_widths}
use Rattle.readout_writer.proofs.RowsOut.{FilledOut}
use Rattle.readout_writer.proofs.rows_out.pairs_out.Given as goal

abbrev pub invariant-loop-k : goal.invariant-loop-k
invariant-loop-k l = FilledOut (pair_widths l.area) l.image l.out l.count l.k
