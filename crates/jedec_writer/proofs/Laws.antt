-- Laws of the writer:
--   text_length                the text of any image of a device has `text_bytes` bytes
--   two_blocks, sixteen-blocks that is 25,732 for n = 2 and 411,293 for n = 16
--   totals                     the lines of the pattern have the device's fuses
--   each_filled                each line of the pattern has a fuse
--   main-fuses, wire-and-fuses "per main row 40, 38 and 30 bits, per wire-AND row 36"
--   written_read               the text of any image of a known device is accepted for that device, and means that image
use mathlib.Core.Path.{◌≡◌, refl}
use mathlib.Core.Bool.{true}
use mathlib.Core.List.{List, [], ◌∷◌, ◌++◌, map}
use Prim.Native.Nat.{ℕ, zero, suc, ◌*◌, ◌/◌, ◌%◌, ◌^◌, ◌<◌, ◌≤◌}
use native.Mathlib.Omega.{arith}
use lib.ListN.{length, get_or, get_or-eq_default}
use Rattle.cells.specs.Cells.{total, repeat}
use Rattle.part.specs.Outcome.Outcome.{accepted}
use Rattle.part.specs.Device.{known, main_rows, wire_and_rows, fuse_count, image_bytes, text_bytes}
use Rattle.part.specs.declared.Area.TheVariants.{Main, WireAnd}
use Rattle.part.specs.declared.Device.{Device}
use Rattle.part.proofs.Devices.{by_count, known_count, fuses_small, image_whole}
use Rattle.image.specs.Bits.{bit_at, tabulate}
use Rattle.image.specs.Image.{state}
use Rattle.image.proofs.Bits.{bit_above}
use Rattle.jedec.specs.Meaning.{longest, meaning}
use Rattle.jedec.specs.Form.{Image}
use Rattle.jedec.proofs.Laws.{read_back}
use Rattle.jedec.specs.WrittenText.{pattern_fuses, NoneEmpty}
use Rattle.jedec_writer.specs.Pattern.{row_lines, block_lines, pattern, text_of}
use Rattle.jedec_writer.proofs.Sizes.{pattern_fuses_lem}
pub use Rattle.jedec_writer.proofs.TextParts.{text_length}

pub two_blocks : (class : ℕ) (image : List ℕ) → length (text_of (record { blocks = 2; class = class }) image) ≡ 25732
unfolding text_bytes fuse_count
two_blocks class image = text_length (record { blocks = 2; class = class }) image

pub sixteen_blocks : (class : ℕ) (image : List ℕ) → length (text_of (record { blocks = 16; class = class }) image) ≡ 411293
unfolding text_bytes fuse_count
sixteen_blocks class image = text_length (record { blocks = 16; class = class }) image

pub totals : (d : Device) → pattern_fuses (pattern d) ≡ fuse_count d
totals d = pattern_fuses_lem d

filled_append : (lines more : List (List ℕ)) → NoneEmpty lines → NoneEmpty more → NoneEmpty (lines ++ more)
filled_append [] more f g = g
filled_append (line ∷ lines) more f g = (f.0, filled_append lines more f.1 g)

filled_repeat : (k : ℕ) (lines : List (List ℕ)) → NoneEmpty lines → NoneEmpty (repeat k lines)
unfolding repeat
filled_repeat zero lines f = tt
filled_repeat (suc k) lines f = filled_append lines (repeat k lines) f (filled_repeat k lines f)

main_filled : NoneEmpty (row_lines Main)
unfolding row_lines tabulate total
main_filled = (omega arith, (omega arith, (omega arith, tt)))

wire_and_filled : NoneEmpty (row_lines WireAnd)
unfolding row_lines tabulate total
wire_and_filled = (omega arith, tt)

pub each_filled : (d : Device) → NoneEmpty (pattern d)
unfolding pattern block_lines
each_filled d =
    let rows = d.blocks * wire_and_rows in
    filled_repeat d.blocks (block_lines d)
    (filled_append (repeat main_rows (row_lines Main)) (repeat rows (row_lines WireAnd))
    (filled_repeat main_rows (row_lines Main) main_filled) (filled_repeat rows (row_lines WireAnd) wire_and_filled))

pub main_fuses_lem : map total (row_lines Main) ≡ 40 ∷ 38 ∷ 30 ∷ []
unfolding row_lines tabulate total
main_fuses_lem = refl

pub wire_and_fuses : map total (row_lines WireAnd) ≡ 36 ∷ []
unfolding row_lines tabulate total
wire_and_fuses = refl

-- An image of a device, which has no bits past the last fuse.
device_image : (d : Device) (image : List ℕ) → known d ≡ true → length image ≡ image_bytes d → ((i : ℕ) → get_or image i 0 < 2 ^ 8)
    → Image (fuse_count d) image
unfolding image_bytes state bit_at
device_image d image k size bytes =
    record {
      size = size;
      bytes = bytes;
      no_more = λ fuse past.
          let none_there : get_or image (fuse / 8) 0 ≡ 0 = get_or-eq_default image 0 (omega (arith, size, image_whole d k)) in
          rw none_there (bit_above 0 0 (fuse % 8) (omega arith) (omega arith));
    }

-- No text of a device is too long to be read.
pub text_few : (d : Device) → known d ≡ true → text_bytes d ≤ longest
unfolding text_bytes fuse_count
text_few d k =
    by_count (λ n. text_bytes (record { blocks = n; class = d.class }) ≤ longest) (omega arith) (omega arith) (omega arith) (omega arith)
    (omega arith) (omega arith) d.blocks (known_count d k)

pub written_read : (d : Device) (image : List ℕ) → known d ≡ true → length image ≡ image_bytes d → ((i : ℕ) → get_or image i 0 < 2 ^ 8)
    → meaning (fuse_count d) (text_of d image) ≡ accepted image
unfolding text_of
written_read d image k size bytes =
    read_back (fuse_count d) (pattern d) image (omega (arith, fuses_small d k)) (device_image d image k size bytes)
    (totals d) (each_filled d)
    (rw (text_length d image) (text_few d k))
