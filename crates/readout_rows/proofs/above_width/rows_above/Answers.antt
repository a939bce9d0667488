-- `rows_above` meets its contract: the rows are looked at one after another.
-- Assumes nothing.
use Rattle.std.proofs.Common.{rules}
use Rattle.readout_rows.proofs.FirstOver.{looked_found, looked_on, looked_at_all, looked_fits}
use Rattle.readout_rows.proofs.above_width.rows_above.Goals as goal

pub overflow_add-result : goal.overflow_add-result
overflow_add-result c = search (rules, looked_fits)

pub returns-in-Some : goal.returns-in-Some
returns-in-Some c = search (rules, looked_found)

pub loop-k-preserved : goal.loop-k-preserved
loop-k-preserved c = search (rules, looked_on)

pub returns : goal.returns
returns c = search (rules, looked_at_all)
