-- `pairs_out` meets its contract: a loop whose invariant is `FilledOut`.
-- Assumes nothing.
use borrow.Author.Rules.{rules}
use Rattle.readout_rows.proofs.RowSizes.{pair_whole}
use Rattle.readout_writer.proofs.RowsOut.{none_out, step_out, all_out}
use Rattle.readout_writer.proofs.rows_out.pairs_out.Goals as goal

pub loop-k-init : goal.loop-k-init
loop-k-init c = none_out _ _ _ _ c.requires.1

pub loop-k-preserved : goal.loop-k-preserved
loop-k-preserved c = search (rules, step_out, pair_whole)

pub returns : goal.returns
returns c = search (rules, all_out)
