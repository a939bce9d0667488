-- The widths of a readout's bytes in order, as lists: what the conversions cut an image's number by.
-- `widths_at` in readout/proofs/Widths.antt ties them to the bytes of the device.
use Rattle.std.specs.Prelude.{ℕ, zero, suc, ◌+◌, ◌*◌, ◌-◌, ◌/◌, ◌^◌, cond, List, [], ◌∷◌, ◌++◌, eqb, ltb, get_or, drop}
use Rattle.std.specs.Prelude.{length, replicate, Option, Some, None}
use Rattle.cells.specs.Cells.{cut, join, total, repeat}
use Rattle.part.specs.Device.{main_rows, wire_and_rows}
use Rattle.part.specs.declared.Area.{Area}
use Rattle.part.specs.declared.Area.TheVariants.{Main, WireAnd}
use Rattle.part.specs.declared.Device.{Device}

-- The widths of a row of each area.
unfoldable pub row_widths : Area → List ℕ
row_widths Main = replicate 9 8 ++ replicate 6 6
row_widths WireAnd = replicate 1 8 ++ replicate 4 7

-- The widths of two rows, which are whole bytes of an image.
unfoldable pub pair_widths : Area → List ℕ
pair_widths area = row_widths area ++ row_widths area

-- The widths of a block: the main rows, and then the wire-AND rows of each subarea.
unfoldable pub block_widths : Device → List ℕ
block_widths d = repeat main_rows (row_widths Main) ++ repeat (d.blocks * wire_and_rows) (row_widths WireAnd)

-- The widths of all bytes of a readout.
unfoldable pub widths : Device → List ℕ
widths d = repeat d.blocks (block_widths d)

-- The whole image bytes of cells of these widths.
unfoldable pub whole_bytes : List ℕ → ℕ
whole_bytes ws = total ws / 8

-- The image bytes that cells of these widths join to.
unfoldable pub bytes_in : List ℕ → List ℕ → List ℕ
bytes_in ws cells = cut (replicate (whole_bytes ws) 8) (join ws cells)

-- How many cells, from the first on, are within their width, that is, have no bit above it.
unfoldable pub cells_within : List ℕ → List ℕ → ℕ
cells_within [] cells = 0
cells_within (w ∷ ws) cells = cond (eqb (get_or cells 0 0 / 2 ^ w) 0) (suc (cells_within ws (drop 1 cells))) 0

-- The index of the first of some cells that has a bit above its width, if one has.
unfoldable pub first_over : List ℕ → List ℕ → Option ℕ
first_over ws cells = cond (ltb (cells_within ws cells) (length ws)) (Some (cells_within ws cells)) None

-- The bits above a width in so many bytes, taken as one word.
unfoldable pub above_mask : (count width : ℕ) → ℕ
above_mask zero width = 0
above_mask (suc count) width = above_mask count width * 2 ^ 8 + (2 ^ 8 - 2 ^ width)
