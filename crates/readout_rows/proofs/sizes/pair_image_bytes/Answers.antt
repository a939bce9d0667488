-- `pair_image_bytes` meets its contract, by the area.
-- Assumes nothing.
use native.Mathlib.Omega.{arith}
use Rattle.readout_rows.proofs.RowSizes.{main_pair, wire_and_pair}
use Rattle.readout_rows.proofs.sizes.pair_image_bytes.Goals as goal

pub returns-in-Main : goal.returns-in-Main
returns-in-Main c = omega (arith, main_pair c.args.area c.in-Main.is)

pub returns-in-WireAnd : goal.returns-in-WireAnd
returns-in-WireAnd c = omega (arith, wire_and_pair c.args.area c.in-WireAnd.is)
