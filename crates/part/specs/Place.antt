-- Where a fuse lies (document 01's "place"): a byte, that is block, area, row and column, and a bit of it; then the
-- fuse number of each. 003's forward routine decides.
use Rattle.std.specs.Prelude.{ℕ, ◌+◌, ◌*◌, ◌-◌, ◌/◌, ◌%◌, Bool, cond, ◌&&◌, ltb}
use Rattle.part.specs.Device.{main_rows, main_columns, main_width, main_start, main_row_fuses, main_fuses}
use Rattle.part.specs.Device.{wire_and_rows, wire_and_columns, wire_and_width, wire_and_start, wire_and_row_fuses}
use Rattle.part.specs.Device.{subarea_fuses, block_fuses}
use Rattle.part.specs.declared.Device.{Device}
use Rattle.part.specs.declared.Place.{Place}
use Rattle.part.specs.declared.BytePlace.{BytePlace}
use Rattle.part.specs.declared.BytePlace.TheVariants.{Main, WireAnd}

-- A block, row and column (wire-AND: subarea too) that the device has.
abbrev pub has_byte : Device → BytePlace → Bool
has_byte d (Main block row column) = ltb block d.blocks && ltb row main_rows && ltb column main_columns
has_byte d (WireAnd block subarea row column) =
    ltb block d.blocks && ltb subarea d.blocks && ltb row wire_and_rows && ltb column wire_and_columns

-- The bits of a byte.
abbrev pub width_of : BytePlace → ℕ
width_of (Main block row column) = main_width column
width_of (WireAnd block subarea row column) = wire_and_width column

-- A byte of the device, and a bit within its width.
unfoldable pub has_place : Device → Place → Bool
has_place d p = has_byte d p.byte && ltb p.bit (width_of p.byte)

-- Fuses run block, area, row, column, bit, lowest bit first: the fuses before a byte.
abbrev pub first_fuse : Device → BytePlace → ℕ
first_fuse d (Main block row column) = block * block_fuses d + (row * main_row_fuses + main_start column)
first_fuse d (WireAnd block subarea row column) =
    block * block_fuses d
    + (main_fuses + (subarea * subarea_fuses + (row * wire_and_row_fuses + wire_and_start column)))

-- The fuses before a bit of a byte.
abbrev pub fuse_of_place : Device → Place → ℕ
fuse_of_place d p = first_fuse d p.byte + p.bit

-- The place of a fuse, by the steps of 003's forward routine: the column of what is left in a
-- row, and the bit of the column.
abbrev pub column_in_row : (wide narrow rest : ℕ) → ℕ
column_in_row wide narrow rest = cond (ltb rest (wide * 8)) (rest / 8) (wide + (rest - wide * 8) / narrow)

abbrev pub bit_in_row : (wide narrow rest : ℕ) → ℕ
bit_in_row wide narrow rest = cond (ltb rest (wide * 8)) (rest % 8) ((rest - wide * 8) % narrow)

-- The row of what is left in the main area, the subarea and the row of what is left in the wire-AND area.
abbrev pub place_in_main : ℕ → ℕ → Place
place_in_main block rest =
    record {
      byte = Main block (rest / main_row_fuses) (column_in_row 9 6 (rest % main_row_fuses));
      bit = bit_in_row 9 6 (rest % main_row_fuses);
    }

abbrev pub place_in_wire_and : ℕ → ℕ → Place
place_in_wire_and block rest =
    record {
      byte =
          WireAnd block (rest / subarea_fuses) (rest % subarea_fuses / wire_and_row_fuses)
          (column_in_row 1 7 (rest % subarea_fuses % wire_and_row_fuses));
      bit = bit_in_row 1 7 (rest % subarea_fuses % wire_and_row_fuses);
    }

abbrev pub place_in_block : ℕ → ℕ → Place
place_in_block block rest =
    cond (ltb rest main_fuses) (place_in_main block rest) (place_in_wire_and block (rest - main_fuses))

-- The block.
unfoldable pub place_of_fuse : Device → ℕ → Place
place_of_fuse d fuse = place_in_block (fuse / block_fuses d) (fuse % block_fuses d)
