-- `wire_and_rows_in` meets its contract: the second row stands above the first, and all are nine bytes.
-- Assumes nothing.
use native.Mathlib.Omega.{arith}
use Rattle.readout_reader.proofs.RowsIn.{wire_and_row_small, wire_and_rows_lem}
use Rattle.readout_reader.proofs.rows_in.wire_and_rows_in.Goals as goal

pub put_eight-top-requires : goal.put_eight-top-requires
put_eight-top-requires c =
    (wire_and_row_small _ _ c.wire_and_row-one.ensures, omega arith, c.split_at_mut-eight.ensures.front_len)

pub returns : goal.returns
returns c =
    wire_and_rows_lem c.args.readout.now _ _ _ _ _ _ (omega (arith, c.split_at_mut-eight.ensures.back_len, c.requires))
    c.wire_and_row-one.ensures c.wire_and_row-two.ensures c.put_eight-top.ensures.value c.put_eight-top.ensures.image_after
    c.put_cells.ensures
