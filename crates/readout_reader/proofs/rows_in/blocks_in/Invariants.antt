-- `blocks_in` meets its contract: the loop of `pairs_in`, over blocks.
-- Assumes nothing.
use Rattle.std.proofs.Common.{◌≡◌, ◌*◌, length}
use Rattle.readout_rows.specs.Widths.{block_widths}
use Rattle.readout_reader.proofs.RowsIn.{FilledIn}
use Rattle.readout_reader.proofs.rows_in.blocks_in.Given as goal

abbrev pub invariant-loop-k : goal.invariant-loop-k
invariant-loop-k l = record {
  whole : length l.readout ≡ l.part.device.blocks * length (block_widths l.part.device);
  filled : FilledIn (block_widths l.part.device) l.readout l.image l.part.device.blocks l.k;
}
