-- The image bytes of two rows of a readout, of a block and of all blocks are the bytes of the number that the cells join to.
-- Assumes nothing.
use mathlib.Core.Path.{◌≡◌, refl, sym, ◌∙◌, ap, ap₂, subst}
use mathlib.Core.List.{List, ◌++◌}
use Prim.Native.Nat.{ℕ, ◌+◌, ◌*◌, ◌-◌, ◌/◌, ◌^◌, ◌≤◌, ◌<◌}
use native.Mathlib.Omega.{arith}
use native.Mathlib.Nat.{add_comm, add-zero, div-eq_of_lt, mul_assoc}
use borrow.Rule.Slice.PartMut.{put_mid}
use lib.ListN.{length, take, drop, replicate, length-replicate, length-drop}
use lib.Seq.{sets}
use Rattle.cells.specs.Cells.{cut, join, total, repeat}
use Rattle.cells.proofs.Laws.{cut_append, cut_length, join_append, join_small, total_append, total_repeat, length_repeat}
use Rattle.part.specs.Device.{main_columns, main_bytes, wire_and_columns, wire_and_row_fuses}
use Rattle.part.specs.declared.Area.TheVariants.{Main, WireAnd}
use Rattle.part.specs.declared.Device.{Device}
use Rattle.readout_rows.specs.Widths.{row_widths, pair_widths, block_widths, widths, whole_bytes, bytes_in}
use Rattle.readout_rows.proofs.RowSizes.{block_size, main_pairs, wire_and_pairs, pairs_of_block, main_pairs_size}
use Rattle.readout_rows.proofs.Stores.{Filled, none_filled, filled_step, filled_all, turn_within, repeat_more, join_few_cells, sets_whole}
use Rattle.readout_reader.proofs.Carried.{of_cells, bytes_in_parts, step_over, step_bytes}

-- A row of the main area: eight cells of 8 bits, one more, and six of 6 bits.
pub main_row : (row o1 o2 o3 : List ℕ) (shift more all carry c1 c2 c3 u v w : ℕ) → all ≡ 9 + more
    → u ≡ join (replicate 8 8) row → c1 ≡ (u * 2 ^ shift + carry) / 2 ^ (8 * 8)
    → o1 ≡ cut (replicate 8 8) (u * 2 ^ shift + carry)
    → v ≡ join (replicate 1 8) (drop 8 row) → c2 ≡ (v * 2 ^ shift + c1) / 2 ^ (1 * 8)
    → o2 ≡ cut (replicate 1 8) (v * 2 ^ shift + c1)
    → w ≡ join (replicate 6 6) (drop 9 row) → c3 ≡ (w * 2 ^ shift + c2) / 2 ^ (more * 8)
    → o3 ≡ cut (replicate more 8) (w * 2 ^ shift + c2)
    → (c3 ≡ (join (row_widths Main) row * 2 ^ shift + carry) / 2 ^ (all * 8))
    × (o1 ++ (o2 ++ o3) ≡ cut (replicate all 8) (join (row_widths Main) row * 2 ^ shift + carry))
unfolding row_widths total
main_row row o1 o2 o3 shift more all carry c1 c2 c3 u v w size eu d1 e1 ev d2 e2 ew d3 e3 =
    let narrow : List ℕ = replicate 6 6 in
    let one = of_cells u _ carry shift 8 c1 o1 eu d1 e1 in
    let two = of_cells v _ c1 shift 1 c2 o2 ev d2 e2 in
    let three = of_cells w _ c2 shift more c3 o3 ew d3 e3 in
    let bytes : 8 + (1 + more) ≡ all = omega arith in
    rw (← bytes) (
      three.0 ∙ step_over (replicate 1 8) narrow row 8 9 c1 c2 shift shift 1 (omega arith) refl two.0 more
          ∙ step_over (replicate 8 8) (replicate 1 8 ++ narrow) row 0 8 carry c1 shift shift 8 (omega arith) refl one.0 (1 + more),
      ap₂ ◌++◌ one.1
          (ap₂ ◌++◌ two.1 three.1 ∙ step_bytes (replicate 1 8) narrow row 8 9 c1 c2 shift shift 1 (omega arith) refl two.0 more)
          ∙ step_bytes (replicate 8 8) (replicate 1 8 ++ narrow) row 0 8 carry c1 shift shift 8 (omega arith) refl one.0 (1 + more),
    )

-- Two rows of the main area.
pub main_rows_lem : (readout first second front back : List ℕ) (carry : ℕ) → length readout ≡ 2 * main_columns
    → first ≡ take main_columns readout → second ≡ drop main_columns readout
    → carry ≡ (join (row_widths Main) first * 2 ^ 0 + 0) / 2 ^ (13 * 8)
    → front ≡ cut (replicate 13 8) (join (row_widths Main) first * 2 ^ 0 + 0)
    → back ≡ cut (replicate 14 8) (join (row_widths Main) second * 2 ^ 4 + carry)
    → front ++ back ≡ bytes_in (pair_widths Main) readout
unfolding row_widths pair_widths whole_bytes bytes_in total
main_rows_lem readout first second front back carry size ef es d1 e1 e2 =
    let row = row_widths Main in
    let alone : join row first ≡ join row readout =
    ap (join row) ef ∙ join_few_cells row readout main_columns (omega arith) (omega arith) in
    let carried : carry ≡ (join row readout * 2 ^ 0 + 0) / 2 ^ (13 * 8) = d1 ∙ ap (λ (x : ℕ). (x * 2 ^ 0 + 0) / 2 ^ (13 * 8)) alone in
    let all : join (row ++ row) readout * 2 ^ 0 + 0 ≡ join (row ++ row) readout = omega arith in
    ap₂ ◌++◌ (e1 ∙ ap (λ (x : ℕ). cut (replicate 13 8) (x * 2 ^ 0 + 0)) alone)
    (e2 ∙ ap (λ (l : List ℕ). cut (replicate 14 8) (join row l * 2 ^ 4 + carry)) es)
    ∙ step_bytes row row readout 0 main_columns 0 carry 0 4 13 refl refl carried 14
    ∙ ap (cut (replicate 27 8)) all

-- The number that a row of the wire-AND area joins to has no more bits than the row has fuses.
pub wire_and_row_small : (cells : List ℕ) (x : ℕ) → x ≡ join (row_widths WireAnd) cells → x < 2 ^ wire_and_row_fuses
unfolding row_widths total
wire_and_row_small cells x e = rw e (join_small (row_widths WireAnd) cells)

-- Two rows of the wire-AND area.
pub wire_and_rows_lem : (readout last eight one-byte : List ℕ) (one two top : ℕ) → length last ≡ 1
    → one ≡ join (row_widths WireAnd) readout → two ≡ join (row_widths WireAnd) (drop wire_and_columns readout)
    → top ≡ (two * 2 ^ wire_and_row_fuses + one) / 2 ^ (8 * 8)
    → eight ≡ cut (replicate 8 8) (two * 2 ^ wire_and_row_fuses + one)
    → one-byte ≡ sets last 0 (cut (replicate 1 8) top)
    → eight ++ one-byte ≡ bytes_in (pair_widths WireAnd) readout
unfolding row_widths pair_widths whole_bytes bytes_in total
wire_and_rows_lem readout last eight one-byte one two top size e1 e2 e3 e4 e5 =
    let ws = row_widths WireAnd in
    let x = two * 2 ^ wire_and_row_fuses + one in
    let all : join (ws ++ ws) readout ≡ x =
    join_append ws ws readout
    ∙ ap₂ (λ (y z : ℕ). y + z * 2 ^ wire_and_row_fuses) (sym e1) (sym e2) ∙ add_comm one (two * 2 ^ wire_and_row_fuses) in
    ap₂ ◌++◌ e4 (e5 ∙ sets_whole last (cut (replicate 1 8) top) (size ∙ sym (cut_length (replicate 1 8) top))
    ∙ ap (cut (replicate 1 8)) e3)
    ∙ sym (cut_append (replicate 8 8) (replicate 1 8) x)
    ∙ ap (cut (replicate 9 8)) (sym all)

-- The image bytes of cells in two parts, of which the first is whole bytes.
bytes_append : (ws vs cells : List ℕ) → total ws ≡ whole_bytes ws * 8
    → bytes_in (ws ++ vs) cells ≡ bytes_in ws cells ++ bytes_in vs (drop (length ws) cells)
unfolding bytes_in whole_bytes
bytes_append ws vs cells whole =
    let k = total ws / 8 in
    let m = total vs / 8 in
    let x = join ws cells in
    let y = join vs (drop (length ws) cells) in
    let none : x / 2 ^ (k * 8) ≡ 0 = div-eq_of_lt (subst (λ (i : ℕ). x < 2 ^ i) whole (join_small ws cells)) in
    let both : (total ws + total vs) / 8 ≡ k + m = omega arith in
    rw (total_append ws vs, both, join_append ws vs cells)
    (ap (λ (i : ℕ). cut (replicate (k + m) 8) (x + y * 2 ^ i)) whole
    ∙ bytes_in_parts k m x y
    ∙ ap (λ (z : ℕ). cut (replicate k 8) x ++ cut (replicate m 8) z) (ap (λ (z : ℕ). y + z) none ∙ add-zero y))

bytes_length : (ws cells : List ℕ) → length (bytes_in ws cells) ≡ whole_bytes ws
unfolding bytes_in
bytes_length ws cells = cut_length (replicate (whole_bytes ws) 8) (join ws cells) ∙ length-replicate {A = ℕ} (whole_bytes ws) 8

-- Some bytes of a readout, as many as there are widths.
part_in : (readout ws : List ℕ) (p n : ℕ) → n ≡ length ws → p + n ≤ length readout
    → bytes_in ws (take n (drop p readout)) ≡ bytes_in ws (drop p readout)
unfolding bytes_in
part_in readout ws p n e h =
    ap (cut (replicate (whole_bytes ws) 8)) (join_few_cells ws (drop p readout) n (omega arith) (omega (arith, length-drop p readout)))

repeat_whole : (k : ℕ) (ws : List ℕ) → total ws ≡ whole_bytes ws * 8 → total (repeat k ws) ≡ whole_bytes (repeat k ws) * 8
unfolding whole_bytes
repeat_whole k ws t = times (total (repeat k ws)) k (total ws / 8) (total_repeat k ws ∙ ap (λ (n : ℕ). k * n) t)
  where
    times : (x k w : ℕ) → x ≡ k * (w * 8) → x ≡ x / 8 * 8
    times x k w e = omega (arith, e, mul_assoc k w 8)

-- The image bytes of k times the widths `ws` of a readout.
unfoldable pub bytes_of : (ws readout : List ℕ) (k : ℕ) → List ℕ
bytes_of ws readout k = bytes_in (repeat k ws) readout

-- What holds in the loop that stores them.
abbrev pub FilledIn : (ws readout out : List ℕ) (count k : ℕ) → Type 0
FilledIn ws readout = Filled (bytes_of ws readout) (whole_bytes ws)

pub none_in : (ws readout out : List ℕ) (count : ℕ) → length out ≡ count * whole_bytes ws → FilledIn ws readout out count 0
unfolding bytes_of repeat bytes_in whole_bytes total cut
none_in ws readout out count l = none_filled (bytes_of ws readout) (whole_bytes ws) out count l refl

module _ (ws readout out : List ℕ) (count k : ℕ) (now : FilledIn ws readout out count k) where
  pub step_in : (one : List ℕ) (bytes whole : ℕ) → k < count → total ws ≡ whole_bytes ws * 8 → bytes ≡ length ws
      → whole ≡ whole_bytes ws → length readout ≡ count * length ws
      → one ≡ bytes_in ws (take (k * bytes + bytes - k * bytes) (drop (k * bytes) readout))
      → FilledIn ws readout (put_mid (k * whole) (k * whole + whole - k * whole) out one) count (k + 1)
  unfolding bytes_of
  step_in one bytes whole h t eb ew l e =
      let p = k * bytes in
      let there : length (repeat k ws) ≡ p = length_repeat k ws ∙ ap (λ (n : ℕ). k * n) (sym eb) in
      let inside : p + bytes ≤ length readout =
      omega (arith, turn_within k count bytes (length readout) h (omega (arith, ap (λ (n : ℕ). count * n) eb))) in
      let mine : one ≡ bytes_in ws (drop (length (repeat k ws)) readout) =
      e ∙ part_in readout ws p (p + bytes - p) (omega arith) (omega arith) ∙ ap (λ (n : ℕ). bytes_in ws (drop n readout)) (sym there) in
      let all_whole : total (repeat k ws) ≡ whole_bytes (repeat k ws) * 8 =
      repeat_whole k ws t in
      filled_step now one (k * whole) (k * whole + whole - k * whole) h (ap (λ (n : ℕ). k * n) ew) (omega arith)
      (ap length mine ∙ bytes_length ws _)
      (ap (λ (l : List ℕ). bytes_in l readout) (repeat_more k ws) ∙ bytes_append (repeat k ws) ws readout all_whole
      ∙ ap (λ (l : List ℕ). bytes_in (repeat k ws) readout ++ l) (sym mine))

  pub all_in : k ≤ count → count ≤ k → out ≡ bytes_in (repeat count ws) readout
  unfolding bytes_of
  all_in h g = filled_all now h g

-- A block is its pairs of main rows, and its pairs of wire-AND rows behind them.
pub block_of_pairs : (d : Device) (readout first last one two : List ℕ) → length readout ≡ length (block_widths d)
    → first ≡ take main_bytes readout → last ≡ drop main_bytes readout
    → one ≡ bytes_in (repeat main_pairs (pair_widths Main)) first
    → two ≡ bytes_in (repeat (d.blocks * wire_and_pairs) (pair_widths WireAnd)) last
    → one ++ two ≡ bytes_in (block_widths d) readout
block_of_pairs d readout first last one two size ef el e1 e2 =
    let ws = repeat main_pairs (pair_widths Main) in
    let vs = repeat (d.blocks * wire_and_pairs) (pair_widths WireAnd) in
    let whole : total ws ≡ whole_bytes ws * 8 = omega (arith, main_pairs_size) in
    let front : bytes_in ws first ≡ bytes_in ws readout =
    ap (bytes_in ws) ef
    ∙ part_in readout ws 0 main_bytes (sym main_pairs_size.1) (omega (arith, block_size d)) in
    let back : bytes_in vs last ≡ bytes_in vs (drop (length ws) readout) =
    ap (bytes_in vs) (el ∙ ap (λ (n : ℕ). drop n readout) (sym main_pairs_size.1)) in
    ap₂ ◌++◌ (e1 ∙ front) (e2 ∙ back) ∙ sym (bytes_append ws vs readout whole)
    ∙ ap (λ (l : List ℕ). bytes_in l readout) (sym (pairs_of_block d))

-- The loop over the blocks of a device.
pub blocks_in_all : (d : Device) (readout out : List ℕ) (k : ℕ) → FilledIn (block_widths d) readout out d.blocks k → k ≤ d.blocks
    → d.blocks ≤ k → out ≡ bytes_in (widths d) readout
unfolding widths
blocks_in_all d readout out k now h g = all_in (block_widths d) readout out d.blocks k now h g
