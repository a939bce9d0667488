-- The list of widths is that of the device's bytes: `widths_at` says that the width at an index is the byte's, and that the bits
-- before it are the fuses before the byte's first.
use mathlib.Core.Path.{◌≡◌, refl, sym, ◌∙◌, ap, subst}
use mathlib.Core.Bool.{true}
use mathlib.Core.List.{List, ◌++◌}
use Prim.Native.Nat.{ℕ, zero, suc, ◌+◌, ◌*◌, ◌-◌, ◌/◌, ◌%◌, ◌<◌}
use native.Mathlib.Omega.{arith}
use native.Mathlib.Nat.{zero-add, zero-mul, suc-mul, mod-lt, div-add-mod', div-lt_iff_lt-mul, not-suc-le-zero, le_of_suc-le-suc}
use native.Mathlib.Nat.{le_of_lt}
use lib.ListN.{length, take, replicate, length-replicate, get_or-append}
use lib.Seq.{take-append-le, take-append-add, get_or-append-add}
use borrow.Author.Tests.{lt-ltb, le-ltb}
use Rattle.cells.specs.Cells.{total, repeat}
use Rattle.cells.proofs.Laws.{total_append, total_replicate, length_repeat}
use Rattle.part.specs.Device.{known, readout_bytes, block_bytes, block_fuses, column_width, column_start}
use Rattle.part.specs.Device.{main_rows, main_columns, main_width, main_start, main_row_fuses, main_fuses, main_bytes}
use Rattle.part.specs.Device.{wire_and_rows, wire_and_columns, wire_and_width, wire_and_start, wire_and_row_fuses, subarea_bytes}
use Rattle.part.specs.Place.{width_of, first_fuse}
use Rattle.addresses.specs.Address.{byte_of_index, byte_in_block}
use Rattle.part.specs.declared.Area.TheVariants.{Main, WireAnd}
use Rattle.part.specs.declared.Device.{Device}
use Rattle.part.specs.declared.BytePlace.{BytePlace}
use Rattle.part.proofs.Facts.{compared, by_cases}
use Rattle.image.proofs.Numbers.{At, at_replicate}
use Rattle.readout_rows.specs.Widths.{row_widths, block_widths, widths}
use Rattle.readout_rows.proofs.RowSizes.{main_size, wire_and_size, main_rows_size, block_size, device_size}

at_left : (ws vs : List ℕ) (i w b : ℕ) → i < length ws → At ws i w b → At (ws ++ vs) i w b
at_left ws vs i w b h a =
    (get_or-append ws vs 0 i h ∙ a.0, ap total (take-append-le i ws vs (le_of_lt h)) ∙ a.1)

at_right : (ws vs : List ℕ) (j w b : ℕ) → At vs j w b → At (ws ++ vs) (length ws + j) w (total ws + b)
at_right ws vs j w b a = (
  get_or-append-add ws vs j 0 ∙ a.0,
  ap total (take-append-add ws vs j) ∙ total_append ws (take j vs) ∙ ap (λ (x : ℕ). total ws + x) a.1,
)

at_repeat : (m : ℕ) (ws : List ℕ) (q r w b : ℕ) → q < m → r < length ws → At ws r w b
    → At (repeat m ws) (q * length ws + r) w (q * total ws + b)
unfolding repeat
at_repeat zero ws q r w b hq hr a = absurd (not-suc-le-zero hq)
at_repeat (suc m) ws zero r w b hq hr a = rw (zero-mul, zero-mul, zero-add, zero-add) (at_left ws (repeat m ws) r w b hr a)
at_repeat (suc m) ws (suc q) r w b hq hr a =
    let e : suc q * length ws + r ≡ length ws + (q * length ws + r) = omega (arith, suc-mul q (length ws)) in
    let f : suc q * total ws + b ≡ total ws + (q * total ws + b) = omega (arith, suc-mul q (total ws)) in
    rw (e, f) (at_right ws (repeat m ws) (q * length ws + r) w (q * total ws + b) (at_repeat m ws q r w b (le_of_suc-le-suc hq) hr a))

-- The columns of a row of `wide` columns of 8 bits and then `more` columns of `narrow` bits.
at_row : (wide narrow more c : ℕ) → c < wide + more
    → At (replicate wide 8 ++ replicate more narrow) c (column_width wide narrow c) (column_start wide narrow c)
at_row wide narrow more c h =
    compared c wide
    (λ l. rw (lt-ltb c wide l)
    (at_left (replicate wide 8) (replicate more narrow) c 8 (c * 8) (rw (length-replicate {A = ℕ} wide 8) l) (at_replicate wide 8 c l)))
    (λ g.
    let e : c ≡ wide + (c - wide) = omega arith in
    let right = at_right (replicate wide 8) (replicate more narrow) (c - wide) narrow ((c - wide) * narrow)
    (at_replicate more narrow (c - wide) (omega arith)) in
    rw (le-ltb c wide g)
    (subst (λ (k : ℕ). At (replicate wide 8 ++ replicate more narrow) k narrow (wide * 8 + (c - wide) * narrow)) (sym e)
    (rw (length-replicate {A = ℕ} wide 8, total_replicate wide 8) at right)))

-- What is to be shown of an index of a block and of the byte there.
abbrev InBlock : Device → ℕ → ℕ → BytePlace → Type 0
InBlock d block rest byte = (x : ℕ) × At (block_widths d) rest (width_of byte) x × (block * block_fuses d + x ≡ first_fuse d byte)

at_block : (d : Device) (block rest : ℕ) → rest < block_bytes d → InBlock d block rest (byte_in_block block rest)
unfolding block_widths row_widths
at_block d block rest h =
    let ms = row_widths Main in
    let vs = row_widths WireAnd in
    let m = main_size Main refl in
    let w = wire_and_size WireAnd refl in
    let rows = repeat main_rows ms in
    by_cases (InBlock d block rest) rest main_bytes
    (λ l.
    let c = rest % main_columns in
    let here = at_repeat main_rows ms (rest / main_columns) c (main_width c) (main_start c) (omega arith) (omega (arith, m.1))
    (at_row 9 6 6 c (omega arith)) in
    let there = rw (m.0, m.1) at here in
    let e : rest / main_columns * main_columns + c ≡ rest = omega arith in (
      rest / main_columns * main_row_fuses + main_start c,
      at_left rows (repeat (d.blocks * wire_and_rows) vs) rest _ _ (rw main_rows_size.1 l) (rw e at there),
      refl,
    ))
    (λ g.
    let r = rest - main_bytes in
    let c = r % wire_and_columns in
    let here = at_repeat (d.blocks * wire_and_rows) vs (r / wire_and_columns) c (wire_and_width c) (wire_and_start c) (omega arith)
    (omega (arith, w.1)) (at_row 1 7 4 c (omega arith)) in
    let there = rw (w.0, w.1) at here in
    let e : r / wire_and_columns * wire_and_columns + c ≡ r = omega arith in
    let past : main_bytes + r ≡ rest = omega arith in
    let c' : r % subarea_bytes % wire_and_columns ≡ c = omega arith in
    let right =
    rw (main_rows_size.1, main_rows_size.0, past) at
    (at_right rows (repeat (d.blocks * wire_and_rows) vs) r _ _ (rw e at there)) in
    (main_fuses + (r / wire_and_columns * wire_and_row_fuses + wire_and_start c), rw c' right, rw c' (omega arith)))

-- The width at an index is that of its byte, and the bits before it are the fuses before it.
pub widths_at : (d : Device) (index : ℕ) → index < readout_bytes d
    → At (widths d) index (width_of (byte_of_index d index)) (first_fuse d (byte_of_index d index))
unfolding widths readout_bytes byte_of_index
widths_at d index h =
    let B = block_bytes d in
    let block = index / B in
    let rest = index % B in
    let size = block_size d in
    let left : rest < B = mod-lt index (omega arith) in
    let inside : block < d.blocks = (div-lt_iff_lt-mul {k = B} {x = index} {y = d.blocks} (omega arith)).1 h in
    let whole : block * B + rest ≡ index = div-add-mod' index B in
    let here = at_block d block rest left in
    let there =
    at_repeat d.blocks (block_widths d) block rest (width_of (byte_in_block block rest)) here.0 inside (rw size.1 left) here.1 in
    rw (size.0, size.1, whole, here.2) at there

pub widths_length : (d : Device) → known d ≡ true → length (widths d) ≡ readout_bytes d
unfolding widths
widths_length d k = length_repeat d.blocks _ ∙ (device_size d k).1
