-- `pair_in` meets its contract, by the area.
-- Assumes nothing.
use native.Mathlib.Omega.{arith}
use Rattle.readout_rows.proofs.RowSizes.{main_pair, wire_and_pair}
use Rattle.readout_reader.proofs.rows_in.pair_in.Goals as goal

pub main_rows_in-requires : goal.main_rows_in-requires
main_rows_in-requires c =
    let area = c in
    let start = area in
    omega (arith, main_pair start.args.area area.in-Main.is, start.requires)

pub wire_and_rows_in-requires : goal.wire_and_rows_in-requires
wire_and_rows_in-requires c =
    let area = c in
    let start = area in
    omega (arith, wire_and_pair start.args.area area.in-WireAnd.is, start.requires)
