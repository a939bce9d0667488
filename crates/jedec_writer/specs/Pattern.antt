-- The line pattern of a device, as 001 has it: "per main row 40, 38 and 30 bits, per wire-AND row 36", five columns a
-- line. The writer's text by that pattern, and what the writer answers: refusals 1, 2 and 12 with the bytes needed.
use Rattle.std.specs.Prelude.{ℕ, ◌+◌, ◌*◌, cond, List, [], ◌∷◌, ◌++◌, ltb, length, drop}
use Rattle.cells.specs.Cells.{total, repeat}
use Rattle.part.specs.Outcome.{Outcome}
use Rattle.part.specs.Outcome.Outcome.{accepted, refused}
use Rattle.part.specs.Device.{blocks_of, main_rows, main_width, wire_and_rows, wire_and_width, fuse_count, image_bytes}
use Rattle.part.specs.Device.{line_bytes, text_bytes}
use Rattle.part.specs.Sizes.{if_known, if_length}
use Rattle.part.specs.declared.Area.{Area}
use Rattle.part.specs.declared.Area.TheVariants.{Main, WireAnd}
use Rattle.part.specs.declared.Device.{Device}
use Rattle.image.specs.Bits.{tabulate}
use Rattle.jedec.specs.WrittenText.{text_with}

-- The widths of the columns of a line, from a column on.
abbrev pub columns_from : (ℕ → ℕ) → ℕ → List ℕ
columns_from width first = tabulate 5 (λ column. width (first + column))

-- The lines of a row of the main area, and of the wire-AND area.
unfoldable pub row_lines : Area → List (List ℕ)
row_lines Main = columns_from main_width 0 ∷ columns_from main_width 5 ∷ columns_from main_width 10 ∷ []
row_lines WireAnd = columns_from wire_and_width 0 ∷ []

-- A block: the rows of its main area, then those of each of its subareas.
unfoldable pub block_lines : Device → List (List ℕ)
block_lines d = repeat main_rows (row_lines Main) ++ repeat (blocks_of d * wire_and_rows) (row_lines WireAnd)

-- A device: its blocks one after the other.
unfoldable pub pattern : Device → List (List ℕ)
pattern d = repeat (blocks_of d) (block_lines d)

-- The bytes of some lines.
unfoldable pub lines_bytes : List (List ℕ) → ℕ
lines_bytes [] = 0
lines_bytes (line ∷ lines) = line_bytes (length line) (total line) + lines_bytes lines

-- What the writer writes of an image.
unfoldable pub text_of : Device → (image : List ℕ) → List ℕ
text_of d image = text_with (fuse_count d) (pattern d) image

-- The bytes written, for a buffer of so many bytes.
unfoldable pub to_text : Device → (image : List ℕ) → (buffer : ℕ) → Outcome ℕ
to_text d image buffer =
    if_known d (if_length (length image) (image_bytes d)
    (cond (ltb buffer (text_bytes d)) (refused 12 (text_bytes d)) (accepted (text_bytes d))))

-- The buffer with the text in it: the bytes behind the text stay.
abbrev pub with_text : Device → (image buffer : List ℕ) → List ℕ
with_text d image buffer = text_of d image ++ drop (text_bytes d) buffer
