-- The fuses and the bytes of rows, blocks and devices, and where the parts of a text stand.
-- Assumes nothing.
use mathlib.Core.Path.{◌≡◌, refl, ◌∙◌, ap}
use mathlib.Core.Bool.{true}
use mathlib.Core.List.{List, [], ◌∷◌}
use Prim.Native.Nat.{ℕ, ◌+◌, ◌*◌, ◌-◌, ◌/◌, ◌^◌, ◌≤◌, ◌<◌}
use native.Mathlib.Omega.{arith}
use lib.ListN.{length, replicate}
use Rattle.cells.specs.Cells.{cut, join, total, repeat, number}
use Rattle.part.specs.Device.{known, in_block, in_device, main_rows, main_row_fuses, main_fuses, main_row_text, wire_and_rows, wire_and_row_fuses}
use Rattle.part.specs.Device.{subarea_fuses, wire_and_row_text, fuse_count, image_bytes, text_bytes, decimal_digits}
use Rattle.part.specs.declared.Area.TheVariants.{Main, WireAnd}
use Rattle.part.specs.declared.Device.{Device}
use Rattle.part.proofs.Devices.{by_count, known_count, blocks_small, fuses_small, image_whole}
use Rattle.image.specs.Bits.{tabulate}
use Rattle.jedec.specs.Characters.{digits_of, letter_l, seven_digits, count_digits}
use Rattle.jedec.specs.WrittenText.{pattern_fuses}
use Rattle.jedec_writer.specs.Pattern.{row_lines, block_lines, pattern}
use Rattle.jedec_writer.specs.Pattern.{lines_bytes}
use Rattle.jedec_writer.proofs.Lines.{fuses_append, bytes_append, fuses_repeat, bytes_repeat}
use Rattle.jedec_writer.specs.Spots.{Room, Lined}
use Rattle.jedec_writer.specs.declared.text.Spot.{Spot}

-- The bytes of the lines of an area.
abbrev main_text : ℕ
main_text = main_rows * main_row_text

abbrev subarea_text : ℕ
subarea_text = wire_and_rows * wire_and_row_text

-- The fuses of a device of so many blocks.
abbrev fuses_of : ℕ → ℕ
fuses_of n = n * (main_fuses + n * subarea_fuses)

-- The lines of a row, width by width.
pub main_lines : row_lines Main ≡ (8 ∷ 8 ∷ 8 ∷ 8 ∷ 8 ∷ []) ∷ (8 ∷ 8 ∷ 8 ∷ 8 ∷ 6 ∷ []) ∷ (6 ∷ 6 ∷ 6 ∷ 6 ∷ 6 ∷ []) ∷ []
unfolding row_lines tabulate
main_lines = refl

pub wire_and_lines : row_lines WireAnd ≡ (8 ∷ 7 ∷ 7 ∷ 7 ∷ 7 ∷ []) ∷ []
unfolding row_lines tabulate
wire_and_lines = refl

pub main_size : (pattern_fuses (row_lines Main) ≡ main_row_fuses) × (lines_bytes (row_lines Main) ≡ main_row_text)
unfolding row_lines tabulate pattern_fuses lines_bytes total
main_size = (refl, refl)

pub wire_and_size : (pattern_fuses (row_lines WireAnd) ≡ wire_and_row_fuses) × (lines_bytes (row_lines WireAnd) ≡ wire_and_row_text)
unfolding row_lines tabulate pattern_fuses lines_bytes total
wire_and_size = (refl, refl)

-- The main rows of a block, and the whole block, have the fuses and bytes of the geometry.
main_rows_lem : (pattern_fuses (repeat main_rows (row_lines Main)) ≡ main_fuses)
    × (lines_bytes (repeat main_rows (row_lines Main)) ≡ main_text)
main_rows_lem = (
  fuses_repeat main_rows (row_lines Main) ∙ ap (λ (k : ℕ). main_rows * k) main_size.0,
  bytes_repeat main_rows (row_lines Main) ∙ ap (λ (k : ℕ). main_rows * k) main_size.1,
)

pub block_size : (d : Device)
    → (pattern_fuses (block_lines d) ≡ in_block d main_fuses subarea_fuses)
    × (lines_bytes (block_lines d) ≡ in_block d main_text subarea_text)
unfolding block_lines
block_size d =
    let w = wire_and_size in
    let rows = repeat main_rows (row_lines Main) in
    let more = d.blocks * wire_and_rows in
    let row = row_lines WireAnd in (
      rw (fuses_append rows (repeat more row), main_rows_lem.0, fuses_repeat more row, w.0) (omega arith),
      rw (bytes_append rows (repeat more row), main_rows_lem.1, bytes_repeat more row, w.1) (omega arith),
    )

-- A block's fuses, and the bytes of its lines, are at most 65535.
pub block_small : (d : Device) → known d ≡ true
    → (in_block d main_fuses subarea_fuses ≤ 65535) × (in_block d main_text subarea_text ≤ 65535)
block_small d k = omega (arith, blocks_small d k)

-- A device has as many fuses and bytes of lines as its blocks together.
device_fuses : (d : Device) → d.blocks * pattern_fuses (block_lines d) ≡ fuse_count d
unfolding fuse_count
device_fuses d = ap (λ (x : ℕ). d.blocks * x) (block_size d).0

device_bytes : (d : Device) → d.blocks * lines_bytes (block_lines d) ≡ in_device d main_text subarea_text
device_bytes d = ap (λ (x : ℕ). d.blocks * x) (block_size d).1

pub pattern_fuses_lem : (d : Device) → pattern_fuses (pattern d) ≡ fuse_count d
unfolding pattern
pattern_fuses_lem d = fuses_repeat d.blocks (block_lines d) ∙ device_fuses d

pattern_bytes : (d : Device) → lines_bytes (pattern d) ≡ d.blocks * lines_bytes (block_lines d)
unfolding pattern
pattern_bytes d = bytes_repeat d.blocks (block_lines d)

-- The text has eleven bytes and the count's digits, the lines, eight bytes and four digits.
pub text_size : (d : Device) → text_bytes d ≡ 11 + decimal_digits (fuse_count d) + lines_bytes (pattern d) + 12
unfolding text_bytes
text_size d = rw (pattern_bytes d, device_bytes d) (omega arith)

-- An image has at least a word, and fuse numbers of six digits.
image_size : (d : Device) → known d ≡ true → (8 ≤ image_bytes d) × (image_bytes d ≤ 125000)
unfolding image_bytes fuse_count
image_size d k =
    by_count (λ n. (8 ≤ (fuses_of n + 7) / 8) × ((fuses_of n + 7) / 8 ≤ 125000)) (omega arith) (omega arith)
    (omega arith) (omega arith) (omega arith) (omega arith) d.blocks (known_count d k)

pub image_word : (d : Device) (image : List ℕ) → known d ≡ true → length image ≡ image_bytes d → 8 ≤ length image
image_word d image k e = rw e (image_size d k).0

pub image_few : (d : Device) (image : List ℕ) → known d ≡ true → length image ≡ image_bytes d → length image ≤ 125000
image_few d image k e = rw e (image_size d k).1

pub count_small : (d : Device) (x : ℕ) → known d ≡ true → x ≡ fuse_count d → x < 1000000
count_small d x k e = omega (arith, fuses_small d k)

pub count_digits_lem : (d : Device) (digits : ℕ) → known d ≡ true → digits ≡ decimal_digits (fuse_count d) → (1 ≤ digits) × (digits ≤ 7)
unfolding fuse_count
count_digits_lem d digits k e =
    rw e (by_count (λ n. (1 ≤ decimal_digits (fuses_of n)) × (decimal_digits (fuses_of n) ≤ 7)) (omega arith)
    (omega arith) (omega arith) (omega arith) (omega arith) (omega arith) d.blocks (known_count d k))

-- The count's digits are the last of its seven.
pub count_cut : (d : Device) → known d ≡ true
    → cut (replicate (decimal_digits (fuse_count d)) 8)
    (number (letter_l ∷ seven_digits (fuse_count d)) / 2 ^ (64 - decimal_digits (fuse_count d) * 8)) ≡ count_digits (fuse_count d)
unfolding fuse_count number join cut digits_of
count_cut d k =
    by_count (λ n.
    let x = fuses_of n in
    cut (replicate (decimal_digits x) 8) (number (letter_l ∷ seven_digits x) / 2 ^ (64 - decimal_digits x * 8)) ≡ count_digits x)
    refl refl refl refl refl refl d.blocks (known_count d k)

-- The blocks of a device one after another are the lines of its pattern, for which its image has the fuses.
abbrev pub first_spot : ℕ → Spot
first_spot at = record { fuse = 0; at = at }

pub pattern_room : (d : Device) (image out : List ℕ) (at n : ℕ) → known d ≡ true → length image ≡ image_bytes d
    → at + lines_bytes (pattern d) ≤ length out → n ≡ d.blocks → Room (repeat n (block_lines d)) image (first_spot at) out
unfolding pattern
pattern_room d image out at n k e fits f =
    rw f
    (record {
      word = image_word d image k e;
      few = image_few d image k e;
      fuses = omega (arith, pattern_fuses_lem d, image_whole d k, e);
      bytes = fits;
    })

pub pattern_lined : (d : Device) (image before after : List ℕ) (at i n : ℕ) (next : Spot)
    → Lined (repeat i (block_lines d)) image before after (first_spot at) next → i ≤ n → n ≤ i → n ≡ d.blocks
    → Lined (pattern d) image before after (first_spot at) next
unfolding pattern
pattern_lined d image before after at i n next p below above e = let all : i ≡ d.blocks = omega arith in rw all at p
