-- The address of a byte, composed of fields; which addresses are valid; and the order of the bytes in a readout,
-- which is that of their addresses (document 01, "Three pictures of one part").
use Rattle.std.specs.Prelude.{ℕ, ◌+◌, ◌*◌, ◌-◌, ◌/◌, ◌%◌, ◌^◌, Bool, cond, ◌&&◌, eqb, ltb}
use Rattle.part.specs.Device.{main_columns, main_bytes, wire_and_columns, subarea_bytes, block_bytes}
use Rattle.part.specs.Place.{has_byte}
use Rattle.part.specs.declared.Device.{Device}
use Rattle.part.specs.declared.Place.{Place}
use Rattle.part.specs.declared.BytePlace.{BytePlace}
use Rattle.part.specs.declared.BytePlace.TheVariants.{Main, WireAnd}

-- An address has 17 bits: the block number in bits 13 to 16, the area kind in bit 12 (0 main, 1 wire-AND). Main: row in
-- bits 5 to 11, column div 5 in bits 3 and 4, column mod 5 in bits 0 to 2. Wire-AND: subarea in bits 8 to 11, row in
-- bits 3 to 7, column in bits 0 to 2.
abbrev pub address_of_byte : BytePlace → ℕ
address_of_byte (Main block row column) = block * 2 ^ 13 + 0 * 2 ^ 12 + row * 2 ^ 5 + column / 5 * 2 ^ 3 + column % 5
address_of_byte (WireAnd block subarea row column) =
    block * 2 ^ 13 + 1 * 2 ^ 12 + subarea * 2 ^ 8 + row * 2 ^ 3 + column

-- The address and the bit of a place.
abbrev pub address_of_place : Place → ℕ × ℕ
address_of_place p = (address_of_byte p.byte, p.bit)

-- `width` bits of a number, from bit `from` on.
abbrev pub field : ℕ → ℕ → ℕ → ℕ
field x from width = x / 2 ^ from % 2 ^ width

-- The byte that the fields of an address name; bits above bit 16 belong to no field, so an address that has one is not
-- the one that its fields compose.
unfoldable pub byte_of_address : ℕ → BytePlace
byte_of_address address =
    cond (eqb (field address 12 1) 0)
    (Main (field address 13 4) (field address 5 7) (field address 3 2 * 5 + field address 0 3))
    (WireAnd (field address 13 4) (field address 8 4) (field address 3 5) (field address 0 3))

-- An address is valid if it is composed as above from a block, row and column (wire-AND:
-- subarea too) that the device has.
unfoldable pub valid : Device → ℕ → Bool
valid d address = eqb (address_of_byte (byte_of_address address)) address && has_byte d (byte_of_address address)

-- A readout has one byte for each valid address, in ascending address order: the bytes before a byte.
abbrev pub index_of_byte : Device → BytePlace → ℕ
index_of_byte d (Main block row column) = block * block_bytes d + (row * main_columns + column)
index_of_byte d (WireAnd block subarea row column) =
    block * block_bytes d + (main_bytes + (subarea * subarea_bytes + (row * wire_and_columns + column)))

-- The byte at an index of a readout.
abbrev pub byte_in_block : ℕ → ℕ → BytePlace
byte_in_block block rest =
    cond (ltb rest main_bytes)
    (Main block (rest / main_columns) (rest % main_columns))
    (WireAnd block
    ((rest - main_bytes) / subarea_bytes)
    ((rest - main_bytes) % subarea_bytes / wire_and_columns)
    ((rest - main_bytes) % subarea_bytes % wire_and_columns))

unfoldable pub byte_of_index : Device → ℕ → BytePlace
byte_of_index d index = byte_in_block (index / block_bytes d) (index % block_bytes d)
