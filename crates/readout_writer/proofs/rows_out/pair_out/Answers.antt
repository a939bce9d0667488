-- `pair_out` meets its contract, by the area.
-- Assumes nothing.
use native.Mathlib.Omega.{arith}
use Rattle.readout_rows.proofs.RowSizes.{main_pair, wire_and_pair}
use Rattle.readout_writer.proofs.rows_out.pair_out.Goals as goal

pub main_rows_out-requires : goal.main_rows_out-requires
main_rows_out-requires c = omega (arith, main_pair c.args.area c.in-Main.is, c.requires)

pub wire_and_rows_out-requires : goal.wire_and_rows_out-requires
wire_and_rows_out-requires c = omega (arith, wire_and_pair c.args.area c.in-WireAnd.is, c.requires)
