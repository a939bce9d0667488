-- `main_rows_in` meets its contract: the second row takes up the 4 bits that the first leaves over.
-- Assumes nothing.
use mathlib.Core.Path.{◌≡◌, refl}
use lib.ListN.{length}
use native.Mathlib.Omega.{arith}
use Rattle.cells.specs.Cells.{total}
use Rattle.part.specs.declared.Area.TheVariants.{Main}
use Rattle.readout_rows.specs.Widths.{row_widths}
use Rattle.readout_reader.proofs.Carried.{left_over}
use Rattle.readout_reader.proofs.RowsIn.{main_rows_lem}
use Rattle.readout_reader.proofs.rows_in.main_rows_in.Goals as goal

pub main_row_in-requires : goal.main_row_in-requires
unfolding row_widths total
main_row_in-requires c =
    let over = rw c.split_at_mut-front.ensures.front_len at c.main_row_in-carry.ensures.value in
    let carry = left_over (row_widths Main) c.split_at.result.0.now 0 _ 0 4 13 (omega arith) refl over in
    omega (arith, c.requires, c.split_at.ensures.back_len, c.split_at_mut-front.ensures.back_len, carry)

pub returns : goal.returns
returns c =
    let size = c.split_at_mut-front.ensures.front_len in
    let last : length c.split_at_mut-front.result.1.now ≡ 14 = omega (arith, c.split_at_mut-front.ensures.back_len, c.requires) in
    main_rows_lem c.args.readout.now _ _ _ _ _ c.requires.0 c.split_at.ensures.front c.split_at.ensures.back
    (rw size at c.main_row_in-carry.ensures.value) (rw size at c.main_row_in-carry.ensures.image_after)
    (rw last at c.main_row_in.ensures.image_after)
