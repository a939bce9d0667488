-- `blocks_out` meets its contract: the loop of `pairs_out`, over blocks.
-- Assumes nothing.
use Rattle.std.proofs.Common.{◌≡◌, ◌*◌, length}
use Rattle.readout_rows.specs.Widths.{block_widths, whole_bytes}
use Rattle.readout_writer.proofs.RowsOut.{FilledOut}
use Rattle.readout_writer.proofs.rows_out.blocks_out.Given as goal

abbrev pub invariant-loop-k : goal.invariant-loop-k
invariant-loop-k l = record {
  whole : length l.image ≡ l.part.device.blocks * whole_bytes (block_widths l.part.device);
  filled : FilledOut (block_widths l.part.device) l.image l.out l.part.device.blocks l.k;
}
