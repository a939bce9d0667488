-- `image_buffer` meets its contract: a replicated byte has the length that it is replicated to.
-- Assumes nothing.
use Prim.Native.Nat.{ℕ}
use lib.ListN.{length-replicate}
use Rattle.part.specs.Device.{fuse_count, image_bytes}
use Rattle.report.specs.Report.{of_blocks}
use Rattle.report.proofs.image_buffer.Goals as goal

pub returns : goal.returns
unfolding image_bytes fuse_count
returns c = length-replicate {A = ℕ} (image_bytes (of_blocks 4)) 0
