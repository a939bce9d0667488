-- The first cell with a bit above its width in a run of bytes, in a row, in a block and in a readout.
-- Assumes nothing.
use mathlib.Core.Path.{◌≡◌, refl, sym, ◌∙◌, ap}
use mathlib.Core.List.{List, ◌∷◌, ◌++◌}
use Prim.Native.Nat.{ℕ, ◌+◌, ◌*◌, ◌/◌, ◌^◌, ◌≤◌, ◌<◌}
use native.Mathlib.Omega.{arith}
use lib.Bits.{bit_and}
use lib.ListN.{length, get_or, take, drop, replicate, length-replicate}
use lib.Seq.{drop-drop, get_or-drop}
use mir.Syntax.{w8, w64}
use mir.Val.{Fits}
use borrow.Author.Tests.{eq-eqb, ne_eqb}
use Rattle.std.specs.Prelude.{Option, Some, None}
use Rattle.std.specs.Option.{MatchOption, unwrap_or}
use Rattle.std.specs.List.{AllWithin, HoldsAt}
use Rattle.std.proofs.lemmas.Iterator.{index_from_first}
use Rattle.cells.specs.Cells.{join, repeat}
use Rattle.cells.proofs.Laws.{join_append, join_few, total_replicate, length_repeat}
use Rattle.part.specs.Device.{main_rows, main_bytes, wire_and_rows}
use Rattle.part.specs.declared.Area.TheVariants.{Main, WireAnd}
use Rattle.part.specs.declared.Device.{Device}
use Rattle.readout_rows.specs.Widths.{row_widths, block_widths, cells_within, first_over, above_mask}
use Rattle.readout_rows.proofs.RowSizes.{wire_and_size, main_rows_size, block_size}
use Rattle.readout_rows.proofs.CellsWithin.{bytes_within, masked_within}
use Rattle.readout_rows.proofs.FirstOver.{found_over, none_over, over_found, over_none, few_over, in_first, in_second, in_none}

-- Bytes of one width: how many are within it.
within : (width : ℕ) → List ℕ → ℕ
within width xs = cells_within (replicate (length xs) width) xs

pub run_found : (width : ℕ) (xs : List ℕ) (r : Option ℕ)
    → MatchOption r (AllWithin (λ x. x / 2 ^ width ≡ 0) xs 0 (length xs))
    (λ i. (i < length xs) × HoldsAt (λ x. x / 2 ^ width ≡ 0 → ⊥) xs i × AllWithin (λ x. x / 2 ^ width ≡ 0) xs 0 i)
    → r ≡ first_over (replicate (length xs) width) xs
unfolding within cells_within
run_found width xs r h = go r h (index_from_first (within width) (λ x. x / 2 ^ width ≡ 0 → ⊥) (λ x. x / 2 ^ width ≡ 0) refl hit miss xs r h)
  where
    hit : (x : ℕ) (xs : List ℕ) → (x / 2 ^ width ≡ 0 → ⊥) → within width (x ∷ xs) ≡ 0
    hit x xs g = rw (ne_eqb (x / 2 ^ width) 0 g)

    miss : (x : ℕ) (xs : List ℕ) → x / 2 ^ width ≡ 0 → within width (x ∷ xs) ≡ within width xs + 1
    miss x xs g = rw (eq-eqb (x / 2 ^ width) 0 g) (omega arith)

    go : (r : Option ℕ) → MatchOption r (AllWithin (λ x. x / 2 ^ width ≡ 0) xs 0 (length xs))
        (λ i. (i < length xs) × HoldsAt (λ x. x / 2 ^ width ≡ 0 → ⊥) xs i × AllWithin (λ x. x / 2 ^ width ≡ 0) xs 0 i)
        → within width xs ≡ unwrap_or r (length xs) → r ≡ first_over (replicate (length xs) width) xs
    go None h e = none_over (replicate (length xs) width) xs (omega (arith, length-replicate {A = ℕ} (length xs) width, e))
    go (Some i) h e = found_over (replicate (length xs) width) xs i (sym e) (omega (arith, length-replicate {A = ℕ} (length xs) width, h.0))

-- Of eight bytes taken as one word, the last six.
pub last_six : (row : List ℕ) (word : ℕ) → word ≡ join (replicate 8 8) (drop 7 row) → word / 2 ^ 16 ≡ join (replicate 6 8) (drop 9 row)
last_six row word e =
    let rest = drop 7 row in
    let low : join (replicate 2 8) rest < 2 ^ 16 = join_few 2 8 2 rest (omega arith) (omega arith) in
    let parts : word ≡ join (replicate 2 8) rest + join (replicate 6 8) (drop 9 row) * 2 ^ 16 =
    e ∙ join_append (replicate 2 8) (replicate 6 8) rest ∙ rw (total_replicate 2 8, drop-drop 2 7 row) in
    omega arith

-- A row of `wide` bytes of 8 bits and then `more` bytes of `narrow` bits.
module _ (row : List ℕ) (wide narrow more : ℕ) (bytes : (i : ℕ) → Fits w8 (get_or row i 0)) where
  wide_none : length {A = ℕ} (replicate wide 8) ≤ cells_within (replicate wide 8) row
  wide_none = omega (arith, length-replicate {A = ℕ} wide 8, bytes_within wide row bytes)

  -- The first byte with a bit above its width is one of the narrow bytes.
  pub row_found : (i : ℕ) → Some i ≡ first_over (replicate more narrow) (drop wide row)
      → Some (wide + i) ≡ first_over (replicate wide 8 ++ replicate more narrow) row
  row_found i e =
      let size = length-replicate {A = ℕ} wide 8 in
      rw size at (in_second (replicate wide 8) (replicate more narrow) row wide_none i (rw size e))

  pub row_none : None ≡ first_over (replicate more narrow) (drop wide row)
      → None ≡ first_over (replicate wide 8 ++ replicate more narrow) row
  row_none e =
      in_none (replicate wide 8) (replicate more narrow) row wide_none (rw (length-replicate {A = ℕ} wide 8) e)

  -- No byte has one if the narrow bytes, taken as one word, have no bit of the mask.
  pub row_clear : (word mask : ℕ) → narrow ≤ 8 → mask ≡ above_mask more narrow → word ≡ join (replicate more 8) (drop wide row)
      → bit_and word mask ≡ 0 → None ≡ first_over (replicate wide 8 ++ replicate more narrow) row
  row_clear word mask h e f z =
      let cells = drop wide row in
      let fits : (i : ℕ) → Fits w8 (get_or cells i 0) = λ i. rw (get_or-drop wide row i 0) (bytes (wide + i)) in
      let all = masked_within more narrow cells h fits (rw (← e, ← f) z) in
      row_none (none_over (replicate more narrow) cells (omega (arith, all, length-replicate {A = ℕ} more narrow)))

-- A block has the main rows, and the wire-AND rows behind them.
module _ (d : Device) (block main : List ℕ) (size : length block ≡ length (block_widths d)) (front : main ≡ take main_bytes block) where
  rows : List ℕ
  rows = repeat main_rows (row_widths Main)

  last : List ℕ
  last = repeat (d.blocks * wire_and_rows) (row_widths WireAnd)

  in_rows : first_over rows main ≡ first_over rows block
  unfolding rows
  in_rows =
      let long : main_bytes ≤ length block = omega (arith, block_size d) in
      rw front (few_over rows block main_bytes (sym main_rows_size.1) long)

  pub block_in_main : (i : ℕ) → Some i ≡ first_over (repeat main_rows (row_widths Main)) main → Some i ≡ first_over (block_widths d) block
  unfolding block_widths rows last
  block_in_main i f = in_first rows last block i (f ∙ in_rows)

  module _ (wire-and : List ℕ) (back : wire-and ≡ drop main_bytes block)
      (none : None ≡ first_over (repeat main_rows (row_widths Main)) main) where
    all_before : length rows ≤ cells_within rows block
    unfolding rows
    all_before = over_none rows block (none ∙ in_rows)

    in_last : first_over last wire-and ≡ first_over last (drop (length rows) block)
    unfolding rows
    in_last = ap (first_over last) (back ∙ ap (λ (k : ℕ). drop k block) (sym main_rows_size.1))

    pub block_in_wire_and : (i : ℕ) → Some i ≡ first_over (repeat (d.blocks * wire_and_rows) (row_widths WireAnd)) wire-and
        → Some (main_bytes + i) ≡ first_over (block_widths d) block
    unfolding block_widths rows last
    block_in_wire_and i f =
        ap (λ (k : ℕ). Some (k + i)) (sym main_rows_size.1) ∙ in_second rows last block all_before i (f ∙ in_last)

    pub block_in_none : (r : Option ℕ) → r ≡ None
        → None ≡ first_over (repeat (d.blocks * wire_and_rows) (row_widths WireAnd)) wire-and → r ≡ first_over (block_widths d) block
    unfolding block_widths rows last
    block_in_none r e f = e ∙ in_none rows last block all_before (f ∙ in_last)

    pub block_fits : (i : ℕ) → Some i ≡ first_over (repeat (d.blocks * wire_and_rows) (row_widths WireAnd)) wire-and
        → length block < 2 ^ 64 → Fits w64 (main_bytes + i)
    block_fits i f l =
        omega (
          arith,
          (over_found (repeat (d.blocks * wire_and_rows) (row_widths WireAnd)) wire-and i f).1,
          length_repeat (d.blocks * wire_and_rows) (row_widths WireAnd),
          rw (wire_and_size WireAnd refl).1 at (length_repeat (d.blocks * wire_and_rows) (row_widths WireAnd)),
          block_size d,
        )
