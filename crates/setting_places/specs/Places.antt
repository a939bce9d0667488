-- How many bits each setting has, and the place, the fuse and the address of each bit: document 01, "Settings and where
-- they lie", in its order and with its numbers. Indices count from 0.
use Rattle.std.specs.Prelude.{ℕ, ◌+◌, ◌*◌, ◌-◌, ◌/◌, ◌%◌, Bool, ◌&&◌, ltb}
use Rattle.part.specs.Place.{fuse_of_place}
use Rattle.part.specs.declared.Device.{Device}
use Rattle.part.specs.declared.Place.{Place}
use Rattle.part.specs.declared.BytePlace.TheVariants as byte
use Rattle.addresses.specs.Address.{address_of_place}
use Rattle.settings.specs.Settings.{has_setting}
use Rattle.settings.specs.declared.Polarity.{Polarity}
use Rattle.settings.specs.declared.Polarity.TheVariants.{P, N}
use Rattle.settings.specs.declared.MacrocellField.{MacrocellField}
use Rattle.settings.specs.declared.MacrocellField.TheVariants.{Alloc, Inv, ImportUpAlloc, ImportDownAlloc, ExportDir}
use Rattle.settings.specs.declared.MacrocellField.TheVariants.{SumHp, IobOeMux, OeMux, OutMux, ClkMux, RegMode, RstMux}
use Rattle.settings.specs.declared.MacrocellField.TheVariants.{SetMux, Init, UimOeMux, UimOutInv, IobGnd, IobSlew, Hp}
use Rattle.settings.specs.declared.BlockField.{BlockField}
use Rattle.settings.specs.declared.BlockField.TheVariants.{Enable, ExportEnable, PullupDisable, ReadProtA, ReadProtB}
use Rattle.settings.specs.declared.BlockField.TheVariants.{WriteProt}
use Rattle.settings.specs.declared.GlobalField.{GlobalField}
use Rattle.settings.specs.declared.GlobalField.TheVariants.{FsrInv, FclkInv, FoeInv, FclkMux, FoeMux, Usercode}
use Rattle.settings.specs.declared.Setting.{Setting}
use Rattle.settings.specs.declared.Setting.TheVariants.{Literal, WireAnd, Macrocell, Block, Global}

-- A bit of the main area, and of the wire-AND area.
abbrev pub main : (block row column bit : ℕ) → Place
main block row column bit = record { byte = byte.Main block row column; bit = bit }

abbrev pub wire_and : (block subarea row column bit : ℕ) → Place
wire_and block subarea row column bit = record { byte = byte.WireAnd block subarea row column; bit = bit }

-- Term literal: row 2l+1 for P, 2l for N.
abbrev pub literal_row : ℕ → Polarity → ℕ
literal_row l P = 2 * l + 1
literal_row l N = 2 * l

-- Macrocell m, by row: the first row of each field, which holds its bit 0.
abbrev pub first_row : MacrocellField → ℕ
first_row (Alloc k) = 12 + 2 * k
first_row Inv = 22
first_row ImportUpAlloc = 23
first_row ImportDownAlloc = 24
first_row ExportDir = 25
first_row SumHp = 26
first_row IobOeMux = 27
first_row OeMux = 29
first_row OutMux = 35
first_row ClkMux = 36
first_row RegMode = 40
first_row RstMux = 41
first_row SetMux = 42
first_row Init = 43
first_row UimOeMux = 44
first_row UimOutInv = 46
first_row IobGnd = 48
first_row IobSlew = 49
first_row (Hp k) = 50 + k

-- How many rows it has: 12+2k and 13+2k; 27, 28; 29 to 31; 36, 37; 44, 45; every other one.
abbrev pub rows : MacrocellField → ℕ
rows (Alloc k) = 2
rows Inv = 1
rows ImportUpAlloc = 1
rows ImportDownAlloc = 1
rows ExportDir = 1
rows SumHp = 1
rows IobOeMux = 2
rows OeMux = 3
rows OutMux = 1
rows ClkMux = 2
rows RegMode = 1
rows RstMux = 1
rows SetMux = 1
rows Init = 1
rows UimOeMux = 2
rows UimOutInv = 1
rows IobGnd = 1
rows IobSlew = 1
rows (Hp k) = 1

-- Each block (row, column, bit).
abbrev pub block_place : ℕ → BlockField → Place
block_place block Enable = main block 67 0 6
block_place block ExportEnable = main block 67 1 6
block_place block PullupDisable = main block 68 6 6
block_place block ReadProtA = main block 11 3 6
block_place block ReadProtB = main block 68 3 6
block_place block WriteProt = main block 68 0 6

-- Block 0: (0,1,6) FSR_INV; (0,2+c,6) FCLK[c].INV; (0,5+e,6) FOE[e].INV; rows 3 and 4, bit 6 of those same columns:
-- FCLK[c].MUX and FOE[e].MUX, bits 0 and 1. USERCODE: bits 16 to 31 in row 6, bits 0 to 15 in row 7 (`UsercodeRows` in
-- specs/Cases.antt has document 01's own words, from place to bit; law `usercode_rows`).
abbrev pub global_place : GlobalField → ℕ → Place
global_place FsrInv bit = main 0 0 1 6
global_place (FclkInv c) bit = main 0 0 (2 + c) 6
global_place (FoeInv e) bit = main 0 0 (5 + e) 6
global_place (FclkMux c) bit = main 0 (3 + bit) (2 + c) 6
global_place (FoeMux e) bit = main 0 (3 + bit) (5 + e) 6
global_place Usercode bit = main 0 (7 - bit / 16) (7 - bit % 16 / 2) (6 + bit % 2)

-- The place of a bit of a setting.
unfoldable pub place_of : Setting → ℕ → Place
-- Term literal: block, macrocell j, term k, input l, polarity: column k + 5(j mod 3); bit j div 3.
place_of (Literal block j k l polarity) bit = main block (literal_row l polarity) (k + 5 * (j % 3)) (j / 3)
-- wire-AND: block i, input j, source block k, macrocell l: subarea k, row l, column j mod 5, bit j div 5.
place_of (WireAnd i j k l) bit = wire_and i k l (j % 5) (j / 5)
-- Macrocell m: column m mod 9, bit 6 + m div 9, by row.
place_of (Macrocell block m field) bit = main block (first_row field + bit) (m % 9) (6 + m / 9)
place_of (Block block field) bit = block_place block field
place_of (Global field) bit = global_place field bit

-- How many bits a setting has.
abbrev pub global_bits : GlobalField → ℕ
global_bits FsrInv = 1
global_bits (FclkInv c) = 1
global_bits (FoeInv e) = 1
global_bits (FclkMux c) = 2
global_bits (FoeMux e) = 2
global_bits Usercode = 32

unfoldable pub bits_of : Setting → ℕ
bits_of (Literal block j k l polarity) = 1
bits_of (WireAnd i j k l) = 1
bits_of (Macrocell block m field) = rows field
bits_of (Block block field) = 1
bits_of (Global field) = global_bits field

-- The fuse of a bit of a setting: the fuse at its place.
unfoldable pub fuse_of : Device → Setting → ℕ → ℕ
fuse_of d s bit = fuse_of_place d (place_of s bit)

-- The address of the byte that holds a bit of a setting, and the bit there: those of its place.
unfoldable pub address_of : Setting → ℕ → ℕ × ℕ
address_of s bit = address_of_place (place_of s bit)

-- A fuse, and its address and bit.
abbrev pub LocatedFuse : Type 0
LocatedFuse = ℕ × (ℕ × ℕ)

-- A setting of the device, and one of its bits.
abbrev pub lists : Device → Setting → ℕ → Bool
lists d s bit = has_setting d s && ltb bit (bits_of s)
