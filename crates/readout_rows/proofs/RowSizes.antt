-- The sizes of rows, pairs of rows, blocks and devices: bits, bytes of a readout, whole bytes of an image.
-- Assumes nothing.
use mathlib.Core.Path.{◌≡◌, refl, sym, ◌∙◌, ap}
use mathlib.Core.Bool.{true}
use mathlib.Core.List.{List, ◌++◌, append_assoc}
use Prim.Native.Nat.{ℕ, zero, suc, ◌*◌, ◌/◌, ◌<◌}
use native.Mathlib.Omega.{arith}
use native.Mathlib.Nat.{zero-mul, mul_assoc}
use lib.ListN.{length, length-append}
use Rattle.cells.specs.Cells.{total, repeat}
use Rattle.cells.proofs.Laws.{total_append, total_repeat, length_repeat}
use Rattle.part.specs.Device.{known, fuse_count, image_bytes, readout_bytes, main_rows, main_columns, main_row_fuses, main_fuses, main_bytes}
use Rattle.part.specs.Device.{wire_and_rows, wire_and_columns, wire_and_row_fuses, block_fuses, block_bytes, in_block, subarea_fuses}
use Rattle.part.specs.declared.Area.{Area}
use Rattle.part.specs.declared.Area.TheVariants.{Main, WireAnd}
use Rattle.part.specs.declared.Device.{Device}
use Rattle.part.proofs.Devices.{image_whole}
use Rattle.readout_rows.specs.Widths.{row_widths, pair_widths, block_widths, whole_bytes}

-- The fuses and the bytes of a row of each area.
pub main_size : (area : Area) → area ≡ Main → (total (row_widths area) ≡ main_row_fuses) × (length (row_widths area) ≡ main_columns)
unfolding total row_widths
main_size area e = rw e (refl, refl)

pub wire_and_size : (area : Area) → area ≡ WireAnd
    → (total (row_widths area) ≡ wire_and_row_fuses) × (length (row_widths area) ≡ wire_and_columns)
unfolding total row_widths
wire_and_size area e = rw e (refl, refl)

pub main_length : (area : Area) → area ≡ Main → length (row_widths area) ≡ main_columns
main_length area e = (main_size area e).1

pub wire_and_length : (area : Area) → area ≡ WireAnd → length (row_widths area) ≡ wire_and_columns
wire_and_length area e = (wire_and_size area e).1

pub some_bytes : (area : Area) → 0 < length (row_widths area)
unfolding row_widths
some_bytes Main = omega arith
some_bytes WireAnd = omega arith

-- The fuses and the bytes of the main rows of a block.
pub main_rows_size : (total (repeat main_rows (row_widths Main)) ≡ main_fuses) × (length (repeat main_rows (row_widths Main)) ≡ main_bytes)
main_rows_size = (
  total_repeat main_rows (row_widths Main) ∙ ap (λ (k : ℕ). main_rows * k) (main_size Main refl).0,
  length_repeat main_rows (row_widths Main) ∙ ap (λ (k : ℕ). main_rows * k) (main_size Main refl).1,
)

-- The fuses and the bytes of a block, and of the device.
pub block_size : (d : Device) → (total (block_widths d) ≡ block_fuses d) × (length (block_widths d) ≡ block_bytes d)
unfolding block_widths
block_size d =
    let w = wire_and_size WireAnd refl in
    let ms = repeat main_rows (row_widths Main) in
    let n = d.blocks * wire_and_rows in
    let vs = row_widths WireAnd in (
      rw (total_append ms (repeat n vs), total_repeat n vs, main_rows_size.0, w.0) (omega arith),
      rw (length-append ms (repeat n vs), length_repeat n vs, main_rows_size.1, w.1) (omega arith),
    )

-- The blocks of a known device have its fuses and its bytes.
pub device_size : (d : Device) → known d ≡ true
    → (d.blocks * total (block_widths d) ≡ image_bytes d * 8) × (d.blocks * length (block_widths d) ≡ readout_bytes d)
unfolding fuse_count readout_bytes
device_size d k =
    (ap (λ (x : ℕ). d.blocks * x) (block_size d).0 ∙ image_whole d k, ap (λ (x : ℕ). d.blocks * x) (block_size d).1)

-- Two rows of either area are whole bytes of an image.
pub pair_whole : (area : Area) → total (pair_widths area) ≡ whole_bytes (pair_widths area) * 8
unfolding pair_widths row_widths whole_bytes total
pair_whole Main = refl
pair_whole WireAnd = refl

pub main_pair : (area : Area) → area ≡ Main
    → (whole_bytes (pair_widths area) ≡ 2 * main_row_fuses / 8) × (length (pair_widths area) ≡ 2 * main_columns)
unfolding pair_widths row_widths whole_bytes total
main_pair area e = rw e (refl, refl)

pub wire_and_pair : (area : Area) → area ≡ WireAnd
    → (whole_bytes (pair_widths area) ≡ 2 * wire_and_row_fuses / 8) × (length (pair_widths area) ≡ 2 * wire_and_columns)
unfolding pair_widths row_widths whole_bytes total
wire_and_pair area e = rw e (refl, refl)

repeat_twice : (k : ℕ) (ws : List ℕ) → repeat k (ws ++ ws) ≡ repeat (k * 2) ws
unfolding repeat
repeat_twice zero ws = ap (λ (i : ℕ). repeat i ws) (sym (zero-mul 2))
repeat_twice (suc k) ws =
    let more : suc k * 2 ≡ suc (suc (k * 2)) = omega arith in
    rw more (ap (λ (l : List ℕ). (ws ++ ws) ++ l) (repeat_twice k ws) ∙ append_assoc ws ws (repeat (k * 2) ws))

-- The pairs of main rows of a block, and the pairs of wire-AND rows of a subarea.
abbrev pub main_pairs : ℕ
main_pairs = main_rows / 2

abbrev pub wire_and_pairs : ℕ
wire_and_pairs = wire_and_rows / 2

-- A block in pairs of rows.
pub pairs_of_block : (d : Device)
    → block_widths d ≡ repeat main_pairs (pair_widths Main) ++ repeat (d.blocks * wire_and_pairs) (pair_widths WireAnd)
unfolding block_widths pair_widths
pairs_of_block d =
    let half : d.blocks * wire_and_pairs * 2 ≡ d.blocks * wire_and_rows = omega arith in
    rw (repeat_twice main_pairs (row_widths Main), repeat_twice (d.blocks * wire_and_pairs) (row_widths WireAnd), half)

-- The pairs of main rows of a block have the fuses, the readout bytes and the image bytes of its main area.
pub main_pairs_size : (total (repeat main_pairs (pair_widths Main)) ≡ main_fuses)
    × (length (repeat main_pairs (pair_widths Main)) ≡ main_bytes)
    × (whole_bytes (repeat main_pairs (pair_widths Main)) ≡ main_fuses / 8)
unfolding pair_widths whole_bytes
main_pairs_size = rw (repeat_twice main_pairs (row_widths Main)) (
  main_rows_size.0,
  main_rows_size.1,
  ap (λ (t : ℕ). t / 8) main_rows_size.0,
)

-- A block is whole bytes of an image.
pub block_whole : (d : Device)
    → (whole_bytes (block_widths d) ≡ in_block d (main_fuses / 8) (subarea_fuses / 8))
    × (total (block_widths d) ≡ whole_bytes (block_widths d) * 8)
unfolding whole_bytes
block_whole d = omega (arith, (block_size d).0)

pub block_bits : (d : Device) → total (block_widths d) ≡ whole_bytes (block_widths d) * 8
block_bits d = (block_whole d).1

pub device_whole : (d : Device) → known d ≡ true → d.blocks * whole_bytes (block_widths d) ≡ image_bytes d
device_whole d k =
    let e : d.blocks * total (block_widths d) ≡ d.blocks * whole_bytes (block_widths d) * 8 =
    ap (λ (x : ℕ). d.blocks * x) (block_whole d).1 ∙ sym (mul_assoc d.blocks (whole_bytes (block_widths d)) 8) in
    omega (arith, (device_size d k).0)
