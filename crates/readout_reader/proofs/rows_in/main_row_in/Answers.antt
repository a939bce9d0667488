-- `main_row_in` meets its contract: each step leaves over what the next one takes up.
-- Assumes nothing.
use native.Mathlib.Omega.{arith}
use Rattle.readout_reader.proofs.Carried.{few, left_over_bytes}
use Rattle.readout_reader.proofs.RowsIn.{main_row}
use Rattle.readout_reader.proofs.rows_in.main_row_in.Goals as goal

pub put_above-second-requires : goal.put_above-second-requires
put_above-second-requires c = (
  few 1 8 _ _ (omega arith) (omega arith) c.joined.ensures,
  left_over_bytes 8 _ _ _ _ _ c.word8.ensures c.requires.1 c.put_eight-first.ensures.value,
  c.requires.2,
  omega (arith, c.split_at_mut-one.ensures.front_len),
)

pub put_above-requires : goal.put_above-requires
put_above-requires c =
    let carry = left_over_bytes 8 _ _ _ _ _ c.word8.ensures c.requires.1 c.put_eight-first.ensures.value in
    let over = rw c.split_at_mut-one.ensures.front_len at c.put_above-second.ensures.value in (
      few 6 6 _ _ (omega arith) (omega arith) c.narrow_cells.ensures,
      left_over_bytes 1 _ _ _ _ _ c.joined.ensures carry over,
      c.requires.2,
      omega (arith, c.split_at_mut-one.ensures.back_len, c.split_at_mut-eight.ensures.back_len, c.requires),
    )

pub returns : goal.returns
returns c =
    let one = rw c.split_at_mut-one.ensures.front_len at c.put_above-second.ensures.value in
    let one_stored = rw c.split_at_mut-one.ensures.front_len at c.put_above-second.ensures.image_after in
    let all = main_row c.args.row.now _ _ _ c.args.shift _ _ c.args.carry _ _ _ _ _ _
    (omega (arith, c.split_at_mut-one.ensures.back_len, c.split_at_mut-eight.ensures.back_len))
    c.word8.ensures c.put_eight-first.ensures.value c.put_eight-first.ensures.image_after
    c.joined.ensures one one_stored
    c.narrow_cells.ensures c.put_above.ensures.value c.put_above.ensures.image_after in record { value = all.0; image_after = all.1 }
