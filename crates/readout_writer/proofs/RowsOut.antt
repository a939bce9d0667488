-- The bytes that the code makes of the words that it takes from an image are the rows cut from the image's number.
-- Then the loops over pairs of rows and over blocks.
use mathlib.Core.Path.{◌≡◌, refl, sym, ◌∙◌, ap, ap₂, subst}
use mathlib.Core.List.{List, ◌++◌}
use Prim.Native.Nat.{ℕ, ◌+◌, ◌*◌, ◌-◌, ◌/◌, ◌%◌, ◌^◌, ◌≤◌, ◌<◌}
use native.Mathlib.Omega.{arith}
use native.Mathlib.Nat.{mod-eq_of_lt, div-one, mul_assoc}
use borrow.Rule.Slice.PartMut.{put_mid}
use Rattle.std.proofs.Common.{length-take-le, take_all}
use lib.ListN.{length, take, drop, replicate, length-replicate, length-drop}
use lib.Pow.{shr-shr, shr_lt}
use lib.Seq.{sets}
use Rattle.cells.specs.Cells.{cut, join, total, repeat, number}
use Rattle.cells.proofs.Laws.{join_small, total_replicate, cut_append, cut_length, cut_low, cut_sets, piece, word_at, total_append, total_repeat}
use Rattle.part.specs.Device.{main_columns, main_row_fuses, main_fuses}
use Rattle.part.specs.Device.{wire_and_columns, wire_and_row_fuses}
use Rattle.part.specs.declared.Area.{Area}
use Rattle.part.specs.declared.Area.TheVariants.{Main, WireAnd}
use Rattle.part.specs.declared.Device.{Device}
use Rattle.readout_rows.specs.Widths.{row_widths, pair_widths, block_widths, widths, whole_bytes}
use Rattle.readout_rows.proofs.RowSizes.{main_size, wire_and_size, main_pairs, wire_and_pairs, pairs_of_block, main_pairs_size, block_whole}
use Rattle.readout_rows.proofs.Stores.{Filled, none_filled, filled_step, filled_all, turn_within, repeat_more, join_few_cells, sets_whole}

-- Cells of a word of eight bytes after its first `skip` bits, where they lie `past` bits after a start.
from_bit : (image ws : List ℕ) (start past p skip w : ℕ) → p + 8 ≤ length image → skip + total ws ≤ 64 → p * 8 + skip ≡ start + past
    → w ≡ join (replicate 8 8) (drop p image) → cut ws (w / 2 ^ skip) ≡ cut ws (number image / 2 ^ start / 2 ^ past)
from_bit image ws start past p skip w h g e f =
    rw f
    (piece image ws p skip 8 h g ∙ ap (λ (t : ℕ). cut ws (number image / 2 ^ t)) e ∙ ap (cut ws) (sym (shr-shr (number image) start past)))

-- A main row from three words, and a wire-AND row from one.
pub main_row : (image out one two three : List ℕ) (byte shift at u v w : ℕ) → shift ≤ 4 → byte + 14 ≤ length image
    → u ≡ join (replicate 8 8) (drop byte image) → one ≡ sets out at (cut (replicate 4 8) (u / 2 ^ shift))
    → v ≡ join (replicate 8 8) (drop (byte + 4) image) → two ≡ sets one (at + 4) (cut (replicate 5 8) (v / 2 ^ shift))
    → w ≡ join (replicate 8 8) (drop (byte + 6) image) → three ≡ sets two (at + 9) (cut (replicate 6 6) (w / 2 ^ (shift + 24)))
    → three ≡ sets out at (cut (row_widths Main) (number image / 2 ^ (byte * 8 + shift)))
unfolding row_widths total
main_row image out one two three byte shift at u v w q h eu e1 ev e2 ew e3 =
    let start = byte * 8 + shift in
    let x = number image / 2 ^ start in
    let c1 : cut (replicate 4 8) (u / 2 ^ shift) ≡ cut (replicate 4 8) x =
    from_bit image (replicate 4 8) start 0 byte shift u (omega arith) (omega arith) (omega arith) eu
    ∙ ap (cut (replicate 4 8)) (div-one x) in
    let c2 = from_bit image (replicate 5 8) start 32 (byte + 4) shift v (omega arith) (omega arith) (omega arith) ev in
    let c3 = from_bit image (replicate 6 6) start 72 (byte + 6) (shift + 24) w (omega arith) (omega arith) (omega arith) ew in
    e3
    ∙ rw (c3, e2, c2, e1, c1)
    (ap (λ (l : List ℕ). sets l (at + 9) (cut (replicate 6 6) (x / 2 ^ 72)))
    (cut_sets out (replicate 4 8) (replicate 5 8) at x 4 32 refl refl)
    ∙ cut_sets out (replicate 9 8) (replicate 6 6) at x 9 72 refl refl)

pub wire_and_row : (image out one two : List ℕ) (byte shift at u : ℕ) → shift ≤ 28 → byte + 8 ≤ length image
    → u ≡ join (replicate 8 8) (drop byte image) → one ≡ sets out at (cut (replicate 1 8) (u / 2 ^ shift))
    → two ≡ sets one (at + 1) (cut (replicate 4 7) (u / 2 ^ shift / 2 ^ 8))
    → two ≡ sets out at (cut (row_widths WireAnd) (number image / 2 ^ (byte * 8 + shift)))
unfolding row_widths total
wire_and_row image out one two byte shift at u q h eu e1 e2 =
    let start = byte * 8 + shift in
    let x = number image / 2 ^ start in
    let whole : cut (row_widths WireAnd) (u / 2 ^ shift) ≡ cut (row_widths WireAnd) x =
    from_bit image (row_widths WireAnd) start 0 byte shift u (omega arith) (omega arith) (omega arith) eu
    ∙ ap (cut (row_widths WireAnd)) (div-one x) in
    e2 ∙ rw e1 (cut_sets out (replicate 1 8) (replicate 4 7) at (u / 2 ^ shift) 1 8 refl refl ∙ ap (sets out at) whole)

-- A row fills its slice.
pub main_row_filled : (image out one two three : List ℕ) (shift u v w : ℕ) → shift ≤ 4 → 14 ≤ length image → length out ≡ main_columns
    → u ≡ join (replicate 8 8) image → one ≡ sets out 0 (cut (replicate 4 8) (u / 2 ^ shift))
    → v ≡ join (replicate 8 8) (drop 4 image) → two ≡ sets one 4 (cut (replicate 5 8) (v / 2 ^ shift))
    → w ≡ join (replicate 8 8) (drop 6 image) → three ≡ sets two 9 (cut (replicate 6 6) (w / 2 ^ (shift + 24)))
    → three ≡ cut (row_widths Main) (number image / 2 ^ shift)
main_row_filled image out one two three shift u v w q h size eu e1 ev e2 ew e3 =
    let zero : 0 * 8 + shift ≡ shift = omega arith in
    let cells = cut (row_widths Main) (number image / 2 ^ shift) in
    main_row image out one two three 0 shift 0 u v w q h eu e1 ev e2 ew e3
    ∙ ap (λ (t : ℕ). sets out 0 (cut (row_widths Main) (number image / 2 ^ t))) zero
    ∙ sets_whole out cells (size ∙ sym (cut_length (row_widths Main) (number image / 2 ^ shift) ∙ (main_size Main refl).1))

pub wire_and_row_filled : (image out one two : List ℕ) (shift u : ℕ) → shift ≤ 28 → 8 ≤ length image → length out ≡ wire_and_columns
    → u ≡ join (replicate 8 8) image → one ≡ sets out 0 (cut (replicate 1 8) (u / 2 ^ shift))
    → two ≡ sets one 1 (cut (replicate 4 7) (u / 2 ^ shift / 2 ^ 8)) → two ≡ cut (row_widths WireAnd) (number image / 2 ^ shift)
wire_and_row_filled image out one two shift u q h size eu e1 e2 =
    let zero : 0 * 8 + shift ≡ shift = omega arith in
    let cells = cut (row_widths WireAnd) (number image / 2 ^ shift) in
    wire_and_row image out one two 0 shift 0 u q h eu e1 e2
    ∙ ap (λ (t : ℕ). sets out 0 (cut (row_widths WireAnd) (number image / 2 ^ t))) zero
    ∙ sets_whole out cells (size ∙ sym (cut_length (row_widths WireAnd) (number image / 2 ^ shift) ∙ (wire_and_size WireAnd refl).1))

-- The number of the bytes from an index on.
number_drop : (image : List ℕ) (p : ℕ) → p ≤ length image → number (drop p image) ≡ number image / 2 ^ (p * 8)
unfolding number
number_drop image p h =
    let n = length image - p in
    let size : length (drop p image) ≡ n = length-drop p image in
    let bits : total (replicate (length image) 8) ≡ n * 8 + p * 8 = total_replicate (length image) 8 ∙ omega arith in
    let small : number image < 2 ^ (n * 8 + p * 8) =
    subst (λ (t : ℕ). number image < 2 ^ t) bits (join_small (replicate (length image) 8) image) in
    rw size (word_at image p n (omega arith) ∙ mod-eq_of_lt (shr_lt (n * 8) (p * 8) small))

-- Two rows, of which the second starts in the middle of a byte.
pair_of : (area : Area) (image behind one two : List ℕ) (k shift t : ℕ) → k ≤ length image → behind ≡ drop k image
    → total (row_widths area) ≡ t → t ≡ k * 8 + shift → one ≡ cut (row_widths area) (number image / 2 ^ 0)
    → two ≡ cut (row_widths area) (number behind / 2 ^ shift) → one ++ two ≡ cut (pair_widths area) (number image)
unfolding pair_widths
pair_of area image behind one two k shift t h eb et ek e1 e2 =
    let ws = row_widths area in
    let x = number image in
    let second : number behind / 2 ^ shift ≡ x / 2 ^ total ws =
    ap (λ (l : List ℕ). number l / 2 ^ shift) eb ∙ ap (λ (y : ℕ). y / 2 ^ shift) (number_drop image k h) ∙ shr-shr x (k * 8) shift
    ∙ ap (λ (j : ℕ). x / 2 ^ j) (sym ek ∙ sym et) in
    ap₂ ◌++◌ (e1 ∙ ap (cut ws) (div-one x)) (e2 ∙ ap (cut ws) second) ∙ sym (cut_append ws ws x)

pub main_rows_lem : (image behind one two : List ℕ) → 13 ≤ length image → behind ≡ drop 13 image
    → one ≡ cut (row_widths Main) (number image / 2 ^ 0) → two ≡ cut (row_widths Main) (number behind / 2 ^ 4)
    → one ++ two ≡ cut (pair_widths Main) (number image)
main_rows_lem image behind one two h eb e1 e2 =
    pair_of Main image behind one two 13 4 main_row_fuses h eb (main_size Main refl).0 refl e1 e2

pub wire_and_rows_lem : (image behind one two : List ℕ) → 1 ≤ length image → behind ≡ drop 1 image
    → one ≡ cut (row_widths WireAnd) (number image / 2 ^ 0) → two ≡ cut (row_widths WireAnd) (number behind / 2 ^ 28)
    → one ++ two ≡ cut (pair_widths WireAnd) (number image)
wire_and_rows_lem image behind one two h eb e1 e2 =
    pair_of WireAnd image behind one two 1 28 wire_and_row_fuses h eb (wire_and_size WireAnd refl).0 refl e1 e2

-- Cells that are some whole bytes of an image, cut from these bytes alone.
part_cut : (image ws : List ℕ) (p w n : ℕ) → total ws ≡ w * 8 → p + w ≤ length image → n ≡ w
    → cut ws (number (take n (drop p image))) ≡ cut ws (number image / 2 ^ (p * 8))
unfolding number
part_cut image ws p w n t h e =
    let long : w ≤ length (drop p image) = omega (arith, length-drop p image) in
    let size : length (take w (drop p image)) ≡ w = length-take-le w (drop p image) long in
    let bytes : List ℕ = replicate w 8 in
    let few : join bytes (take w (drop p image)) ≡ join bytes (drop p image) =
    join_few_cells bytes (drop p image) w (omega (arith, length-replicate {A = ℕ} w 8)) long in
    let x = number image / 2 ^ (p * 8) in
    let bits : w * 8 ≡ 0 + total ws = omega arith in
    rw (e, size) (ap (cut ws) (few ∙ word_at image p w h ∙ ap (λ (k : ℕ). x % 2 ^ k) bits) ∙ cut_low ws x 0)

-- The cells of k times the widths `ws`, cut from an image's number.
unfoldable pub cells_of : (ws image : List ℕ) (k : ℕ) → List ℕ
cells_of ws image k = cut (repeat k ws) (number image)

-- What holds in the loop that stores them.
abbrev pub FilledOut : (ws image out : List ℕ) (count k : ℕ) → Type 0
FilledOut ws image = Filled (cells_of ws image) (length ws)

pub none_out : (ws image out : List ℕ) (count : ℕ) → length out ≡ count * length ws → FilledOut ws image out count 0
unfolding cells_of repeat cut
none_out ws image out count l = none_filled (cells_of ws image) (length ws) out count l refl

module _ (ws image out : List ℕ) (count k : ℕ) (now : FilledOut ws image out count k) where
  pub step_out : (one : List ℕ) (whole bytes : ℕ) → k < count → total ws ≡ whole_bytes ws * 8 → whole ≡ whole_bytes ws
      → bytes ≡ length ws → length image ≡ count * whole_bytes ws
      → one ≡ cut ws (number (take (k * whole + whole - k * whole) (drop (k * whole) image)))
      → FilledOut ws image (put_mid (k * bytes) (k * bytes + bytes - k * bytes) out one) count (k + 1)
  unfolding cells_of
  step_out one whole bytes h t ew eb l e =
      let p = k * whole in
      let there : p ≡ k * whole_bytes ws = ap (λ (n : ℕ). k * n) ew in
      let inside : p + whole_bytes ws ≤ length image =
      omega (arith, there, turn_within k count (whole_bytes ws) (length image) h (omega arith)) in
      let bits : p * 8 ≡ total (repeat k ws) =
      omega (arith, there, total_repeat k ws, ap (λ (n : ℕ). k * n) t, mul_assoc k (whole_bytes ws) 8) in
      let mine : one ≡ cut ws (number image / 2 ^ total (repeat k ws)) =
      e ∙ part_cut image ws p (whole_bytes ws) (p + whole - p) t inside (omega arith)
      ∙ ap (λ (j : ℕ). cut ws (number image / 2 ^ j)) bits in
      filled_step now one (k * bytes) (k * bytes + bytes - k * bytes) h (ap (λ (n : ℕ). k * n) eb) (omega arith)
      (ap length mine ∙ cut_length ws _)
      (ap (λ (l : List ℕ). cut l (number image)) (repeat_more k ws) ∙ cut_append (repeat k ws) ws (number image)
      ∙ ap (λ (l : List ℕ). cut (repeat k ws) (number image) ++ l) (sym mine))

  pub all_out : k ≤ count → count ≤ k → out ≡ cut (repeat count ws) (number image)
  unfolding cells_of
  all_out h g = filled_all now h g

-- A block is its pairs of main rows, and its pairs of wire-AND rows behind them.
pub block_of_pairs : (d : Device) (image first last one two : List ℕ) → length image ≡ whole_bytes (block_widths d)
    → first ≡ take (main_fuses / 8) image → last ≡ drop (main_fuses / 8) image
    → one ≡ cut (repeat main_pairs (pair_widths Main)) (number first)
    → two ≡ cut (repeat (d.blocks * wire_and_pairs) (pair_widths WireAnd)) (number last)
    → one ++ two ≡ cut (block_widths d) (number image)
block_of_pairs d image first last one two size ef el e1 e2 =
    let m = main_fuses / 8 in
    let n = length image - m in
    let ws = repeat main_pairs (pair_widths Main) in
    let vs = repeat (d.blocks * wire_and_pairs) (pair_widths WireAnd) in
    let bits : total (ws ++ vs) ≡ whole_bytes (block_widths d) * 8 = ap total (sym (pairs_of_block d)) ∙ (block_whole d).1 in
    let sum : total ws + total vs ≡ whole_bytes (block_widths d) * 8 = sym (total_append ws vs) ∙ bits in
    let rest : last ≡ take n (drop m image) = el ∙ sym (take_all n (drop m image) (omega (arith, length-drop m image))) in
    let front : cut ws (number first) ≡ cut ws (number image) =
    ap (λ (l : List ℕ). cut ws (number l)) ef
    ∙ part_cut image ws 0 m m (main_pairs_size.0) (omega (arith, main_pairs_size.0)) refl ∙ ap (cut ws) (div-one (number image)) in
    let back : cut vs (number last) ≡ cut vs (number image / 2 ^ total ws) =
    ap (λ (l : List ℕ). cut vs (number l)) rest
    ∙ part_cut image vs m n n (omega (arith, main_pairs_size.0)) (omega (arith, main_pairs_size.0)) refl
    ∙ ap (λ (j : ℕ). cut vs (number image / 2 ^ j)) (sym main_pairs_size.0) in
    ap₂ ◌++◌ (e1 ∙ front) (e2 ∙ back) ∙ sym (cut_append ws vs (number image))
    ∙ ap (λ (l : List ℕ). cut l (number image)) (sym (pairs_of_block d))

-- The loop over the blocks of a device.
pub blocks_out_all : (d : Device) (image out : List ℕ) (k : ℕ) → FilledOut (block_widths d) image out d.blocks k → k ≤ d.blocks
    → d.blocks ≤ k → out ≡ cut (widths d) (number image)
unfolding widths
blocks_out_all d image out k now h g = all_out (block_widths d) image out d.blocks k now h g
