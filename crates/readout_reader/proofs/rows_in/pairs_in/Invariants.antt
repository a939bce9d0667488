-- `pairs_in` meets its contract: a loop whose invariant is `FilledIn`.
-- Assumes nothing.
use Rattle.readout_rows.specs.Widths.{pair_widths}
use Rattle.readout_reader.proofs.RowsIn.{FilledIn}
use Rattle.readout_reader.proofs.rows_in.pairs_in.Given as goal

abbrev pub invariant-loop-k : goal.invariant-loop-k
invariant-loop-k l = FilledIn (pair_widths l.area) l.readout l.image l.count l.k
