-- Which devices there are, and how many fuses and bytes each has: document 01, "Covered by the first build" and "Three
-- pictures of one part". Contracts above speak of `known`, the fuse count and the lengths, never of the fields.
use Rattle.std.specs.Prelude.{ℕ, ◌+◌, ◌*◌, ◌-◌, ◌/◌, Bool, cond, ◌&&◌, ◌||◌, eqb, ltb}
use Rattle.part.specs.declared.Device.{Device}

-- A device as a caller names it, by two numbers.
abbrev pub device : ℕ → ℕ → Device
device blocks class = record { blocks = blocks; class = class }

-- A device is a block count n (2, 4, 6, 8, 12 or 16), and
abbrev pub is_block_count : ℕ → Bool
is_block_count n = eqb n 2 || eqb n 4 || eqb n 6 || eqb n 8 || eqb n 12 || eqb n 16

-- an output-enable class, small (0) or large (1).
abbrev pub is_class : ℕ → Bool
is_class c = eqb c 0 || eqb c 1

unfoldable pub known : Device → Bool
known d = is_block_count d.blocks && is_class d.class

-- What the crates above read of a device: its number of blocks, and whether its class is the large one.
abbrev pub blocks_of : Device → ℕ
blocks_of d = d.blocks

abbrev pub is_large : Device → Bool
is_large d = eqb d.class 1

-- A row has `wide` columns of 8 bits, and then columns of `narrow` bits: the bits of a column.
abbrev pub column_width : (wide narrow : ℕ) → ℕ → ℕ
column_width wide narrow column = cond (ltb column wide) 8 narrow

-- The bits of such a row before a column.
abbrev pub column_start : (wide narrow : ℕ) → ℕ → ℕ
column_start wide narrow column = cond (ltb column wide) (column * 8) (wide * 8 + (column - wide) * narrow)

-- A block has a main area, 72 rows of 15 columns (columns 0 to 8 of 8 bits, 9 to 14 of 6).
abbrev pub main_rows : ℕ
main_rows = 72

abbrev pub main_columns : ℕ
main_columns = 15

abbrev pub main_width : ℕ → ℕ
main_width = column_width 9 6

abbrev pub main_start : ℕ → ℕ
main_start = column_start 9 6

-- Then it has n subareas of 18 rows of 5 columns (column 0 of 8 bits, 1 to 4 of 7).
abbrev pub wire_and_rows : ℕ
wire_and_rows = 18

abbrev pub wire_and_columns : ℕ
wire_and_columns = 5

abbrev pub wire_and_width : ℕ → ℕ
wire_and_width = column_width 1 7

abbrev pub wire_and_start : ℕ → ℕ
wire_and_start = column_start 1 7

-- 108 bits a row, 36 bits a row.
abbrev pub main_row_fuses : ℕ
main_row_fuses = main_start main_columns

abbrev pub wire_and_row_fuses : ℕ
wire_and_row_fuses = wire_and_start wire_and_columns

-- What a block has, of so much in its main area and so much in each of its subareas.
abbrev pub in_block : Device → (main subarea : ℕ) → ℕ
in_block d main subarea = main + d.blocks * subarea

abbrev pub in_device : Device → (main subarea : ℕ) → ℕ
in_device d main subarea = d.blocks * in_block d main subarea

abbrev pub main_fuses : ℕ
main_fuses = main_rows * main_row_fuses

abbrev pub subarea_fuses : ℕ
subarea_fuses = wire_and_rows * wire_and_row_fuses

abbrev pub block_fuses : Device → ℕ
block_fuses d = in_block d main_fuses subarea_fuses

unfoldable pub fuse_count : Device → ℕ
fuse_count d = in_device d main_fuses subarea_fuses

-- One bit a fuse.
unfoldable pub image_bytes : Device → ℕ
image_bytes d = (fuse_count d + 7) / 8

-- One byte for each column of each row.
abbrev pub main_bytes : ℕ
main_bytes = main_rows * main_columns

abbrev pub subarea_bytes : ℕ
subarea_bytes = wire_and_rows * wire_and_columns

abbrev pub block_bytes : Device → ℕ
block_bytes d = in_block d main_bytes subarea_bytes

unfoldable pub readout_bytes : Device → ℕ
readout_bytes d = in_device d main_bytes subarea_bytes

-- How many decimal digits a count has: at most seven.
abbrev pub decimal_digits : ℕ → ℕ
decimal_digits x =
    cond (ltb x 10) 1
    (cond (ltb x 100) 2 (cond (ltb x 1000) 3 (cond (ltb x 10000) 4 (cond (ltb x 100000) 5 (cond (ltb x 1000000) 6 7)))))

-- An L line: L, seven digits, a space before each column's bits, `*`, LF.
abbrev pub line_bytes : ℕ → ℕ → ℕ
line_bytes columns bits = 1 + 7 + columns + bits + 2

-- Per main row 40, 38 and 30 bits, of five columns each; per wire-AND row 36.
abbrev pub main_row_text : ℕ
main_row_text =
    line_bytes 5 (main_start 5) + line_bytes 5 (main_start 10 - main_start 5)
    + line_bytes 5 (main_start 15 - main_start 10)

abbrev pub wire_and_row_text : ℕ
wire_and_row_text = line_bytes wire_and_columns wire_and_row_fuses

-- STX `*` LF; `QF`, the count, `*` LF; `F0*` LF; the L lines; `C`, four digits, `*` LF; ETX and four digits.
unfoldable pub text_bytes : Device → ℕ
text_bytes d =
    3 + (2 + decimal_digits (fuse_count d) + 2) + 4
    + in_device d (main_rows * main_row_text) (wire_and_rows * wire_and_row_text) + (1 + 4 + 2) + (1 + 4)
