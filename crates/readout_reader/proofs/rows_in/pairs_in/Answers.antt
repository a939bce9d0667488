-- `pairs_in` meets its contract: a loop whose invariant is `FilledIn`.
-- Assumes nothing.
use borrow.Author.Rules.{rules}
use Rattle.readout_rows.proofs.RowSizes.{pair_whole}
use Rattle.readout_reader.proofs.RowsIn.{none_in, step_in, all_in}
use Rattle.readout_reader.proofs.rows_in.pairs_in.Goals as goal

pub loop-k-init : goal.loop-k-init
loop-k-init c = none_in _ _ _ _ c.requires.1

pub loop-k-preserved : goal.loop-k-preserved
loop-k-preserved c = search (rules, step_in, pair_whole)

pub returns : goal.returns
returns c = search (rules, all_in)
