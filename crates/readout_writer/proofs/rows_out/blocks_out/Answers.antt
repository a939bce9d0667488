-- `blocks_out` meets its contract: the loop of `pairs_out`, over blocks.
-- Assumes nothing.
use Rattle.std.proofs.Common.{sym, ◌∙◌, rules}
use Rattle.readout_rows.proofs.RowSizes.{device_size, device_whole, block_bits}
use Rattle.readout_writer.proofs.RowsOut.{none_out, step_out, blocks_out_all}
use Rattle.readout_writer.proofs.rows_out.blocks_out.Goals as goal

pub loop-k-init : goal.loop-k-init
loop-k-init c = record {
  whole = c.requires.0 ∙ sym (device_whole c.args.part.device c.args.part.is_known);
  filled = none_out _ _ _ _ (c.requires.1 ∙ sym (device_size c.args.part.device c.args.part.is_known).1);
}

pub loop-k-preserved : goal.loop-k-preserved
loop-k-preserved c = record { whole = c.loop-k.invariant.whole; filled = search (rules, step_out, block_bits) }

pub returns : goal.returns
returns c = search (rules, blocks_out_all)
