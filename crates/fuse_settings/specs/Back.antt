-- The way from a fuse back to its setting: a candidate is taken from the place of the fuse, and it is the answer
-- exactly if it lists that fuse. Only `setting_at` is to be believed; `fuses_inverse` and `unnamed_iff` determine it.
use Rattle.std.specs.Prelude.{ℕ, zero, suc, ◌+◌, ◌*◌, ◌-◌, ◌/◌, ◌%◌, Bool, true, false, cond, ◌&&◌, eqb, ltb, leb}
use Rattle.std.proofs.Math.Option.{Option}
use Rattle.std.proofs.Math.Option.Option.{none, some}
use Rattle.part.specs.Place.{place_of_fuse}
use Rattle.part.specs.declared.Device.{Device}
use Rattle.part.specs.declared.Place.{Place}
use Rattle.part.specs.declared.BytePlace.{BytePlace}
use Rattle.part.specs.declared.BytePlace.TheVariants as byte
use Rattle.settings.specs.Fields.{macrocell_fields}
use Rattle.settings.specs.Order.{macrocell_field_at}
use Rattle.settings.specs.declared.Polarity.{Polarity}
use Rattle.settings.specs.declared.Polarity.TheVariants.{P, N}
use Rattle.settings.specs.declared.MacrocellField.{MacrocellField}
use Rattle.settings.specs.declared.BlockField.{BlockField}
use Rattle.settings.specs.declared.BlockField.TheVariants.{Enable, ExportEnable, PullupDisable, ReadProtA, ReadProtB}
use Rattle.settings.specs.declared.BlockField.TheVariants.{WriteProt}
use Rattle.settings.specs.declared.GlobalField.{GlobalField}
use Rattle.settings.specs.declared.GlobalField.TheVariants.{FsrInv, FclkInv, FoeInv, FclkMux, FoeMux, Usercode}
use Rattle.settings.specs.declared.Setting.{Setting}
use Rattle.settings.specs.declared.Setting.TheVariants.{Literal, WireAnd, Macrocell, Block, Global}
use Rattle.setting_places.specs.Places.{first_row, fuse_of, lists}
use Rattle.fuse_settings.specs.declared.SettingBit.{SettingBit}

abbrev pub polarity_of_row : ℕ → Polarity
polarity_of_row row = cond (eqb (row % 2) 1) P N

-- The last of a macrocell's fields that starts at or before a row.
unfoldable pub last_up_to : (row index : ℕ) → ℕ
last_up_to row zero = zero
last_up_to row (suc i) = cond (leb (first_row (macrocell_field_at (suc i))) row) (suc i) (last_up_to row i)

unfoldable pub field_index_at_row : ℕ → ℕ
field_index_at_row row = last_up_to row (macrocell_fields - 1)

abbrev pub field_at_row : ℕ → MacrocellField
field_at_row row = macrocell_field_at (field_index_at_row row)

abbrev pub block_field_near : (row column : ℕ) → BlockField
block_field_near row column =
    cond (ltb row 68)
    (cond (eqb column 0) Enable ExportEnable)
    (cond (eqb column 0) WriteProt (cond (eqb column 3) ReadProtB PullupDisable))

abbrev pub global_field_near : (row column : ℕ) → GlobalField
global_field_near row column =
    cond (ltb 5 row) Usercode
    (cond (ltb column 2) FsrInv
    (cond (ltb column 5)
    (cond (eqb row 0) (FclkInv (column - 2)) (FclkMux (column - 2)))
    (cond (eqb row 0) (FoeInv (column - 5)) (FoeMux (column - 5)))))

abbrev pub global_bit_near : (row column bit : ℕ) → ℕ
global_bit_near row column bit =
    cond (ltb row 3) 0
    (cond (ltb row 6) (row - 3)
    (cond (ltb row 8 && ltb column 8) (16 * (7 - row) + 2 * (7 - column) + (bit - 6)) 0))

abbrev pub candidate_in_main : (block row column bit : ℕ) → SettingBit
candidate_in_main block row column bit =
    cond (ltb bit 6)
    (record { setting = Literal block (column / 5 + 3 * bit) (column % 5) (row / 2) (polarity_of_row row); bit = 0 })
    (cond (ltb row 11)
    (record { setting = Global (global_field_near row column); bit = global_bit_near row column bit })
    (cond (ltb row 12)
    (record { setting = Block block ReadProtA; bit = 0 })
    (cond (ltb row 55)
    (record {
      setting = Macrocell block (column + 9 * (bit - 6)) (field_at_row row);
      bit = row - first_row (field_at_row row);
    })
    (record { setting = Block block (block_field_near row column); bit = 0 }))))

abbrev pub candidate_in : BytePlace → ℕ → SettingBit
candidate_in (byte.Main block row column) bit = candidate_in_main block row column bit
candidate_in (byte.WireAnd block subarea row column) bit =
    record { setting = WireAnd block (column + 5 * bit) subarea row; bit = 0 }

unfoldable pub candidate_at : Place → SettingBit
candidate_at p = candidate_in p.byte p.bit

-- Literals and wire-ANDs always list the place at which they are the candidate: law `always_listed_lem`.
abbrev pub always_listed : Setting → Bool
always_listed (Literal block macrocell term input polarity) = true
always_listed (WireAnd block input source macrocell) = true
always_listed (Macrocell block macrocell field) = false
always_listed (Block block field) = false
always_listed (Global field) = false

-- The setting and the bit whose fuse it is, or none.
abbrev pub if_listed : Device → ℕ → SettingBit → Option (Setting × ℕ)
if_listed d fuse c =
    cond (lists d c.setting c.bit && eqb (fuse_of d c.setting c.bit) fuse) (some (c.setting, c.bit)) none

unfoldable pub setting_at : Device → ℕ → Option (Setting × ℕ)
setting_at d fuse = if_listed d fuse (candidate_at (place_of_fuse d fuse))
