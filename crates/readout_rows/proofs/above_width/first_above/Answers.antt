-- `first_above` meets its contract: the blocks are looked at one after another.
-- Assumes nothing.
use Rattle.std.proofs.Common.{sym, ◌∙◌, rules}
use Rattle.readout_rows.specs.Widths.{widths}
use Rattle.readout_rows.proofs.RowSizes.{device_size}
use Rattle.readout_rows.proofs.FirstOver.{looked_none_yet, looked_found, looked_on, looked_at_all, looked_fits}
use Rattle.readout_rows.proofs.above_width.first_above.Goals as goal

pub loop-k-init : goal.loop-k-init
loop-k-init c = record {
  whole = (device_size c.args.part.device c.args.part.is_known).1 ∙ sym c.requires;
  looked = looked_none_yet _ _ _;
}

pub overflow_add-result : goal.overflow_add-result
overflow_add-result c = search (rules, looked_fits)

pub returns-in-Some : goal.returns-in-Some
unfolding widths
returns-in-Some c = search (rules, looked_found)

pub loop-k-preserved : goal.loop-k-preserved
loop-k-preserved c = record { whole = c.loop-k.invariant.whole; looked = search (rules, looked_on) }

pub returns : goal.returns
unfolding widths
returns c = search (rules, looked_at_all)
