-- `first_above` meets its contract: the blocks are looked at one after another.
-- Assumes nothing.
use Rattle.std.proofs.Common.{◌≡◌, ◌*◌, length}
use Rattle.readout_rows.specs.Widths.{block_widths}
use Rattle.readout_rows.proofs.FirstOver.{Looked}
use Rattle.readout_rows.proofs.above_width.first_above.Given as goal

abbrev pub invariant-loop-k : goal.invariant-loop-k
invariant-loop-k l = record {
  whole : l.part.device.blocks * length (block_widths l.part.device) ≡ length l.readout;
  looked : Looked (block_widths l.part.device) l.readout l.part.device.blocks l.k;
}
