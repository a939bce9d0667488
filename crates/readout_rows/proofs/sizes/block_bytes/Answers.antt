-- `block_bytes` meets its contract: the size of a block of a known device.
-- Assumes nothing.
use native.Mathlib.Omega.{arith}
use Rattle.readout_rows.proofs.RowSizes.{block_size}
use Rattle.readout_rows.proofs.sizes.block_bytes.Goals as goal

pub returns : goal.returns
returns c = omega (arith, block_size c.args.part.device)
