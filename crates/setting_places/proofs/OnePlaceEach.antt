-- The places of the settings: each bit of a setting that a device has lies at a place that the device has.
-- Stated once for every device.
use mathlib.Core.Path.{◌≡◌, refl, subst}
use mathlib.Core.Bool.{Bool, true, not, ◌&&◌, ◌||◌}
use Prim.Native.Nat.{ℕ, ◌+◌, ◌*◌, ◌-◌, ◌/◌, ◌%◌, ◌<◌, ◌≤◌}
use native.Mathlib.Omega.{arith}
use lib.Dec.{ltb}
use borrow.Author.Tests.{lt-ltb, ltb-true}
use Rattle.part.specs.Device.{known, blocks_of}
use Rattle.part.specs.Place.{has_place}
use Rattle.part.specs.declared.Device.{Device}
use Rattle.part.specs.declared.Place.{Place}
use Rattle.part.proofs.Facts.{by_cases, tests}
use Rattle.settings.specs.Fields.{foes, macrocell_fields, macrocell_index, global_fields, global_index}
use Rattle.settings.specs.Settings.{has_setting}
use Rattle.settings.specs.Order.{macrocell_field_at}
use Rattle.settings.specs.declared.Polarity.{Polarity}
use Rattle.settings.specs.declared.Polarity.TheVariants.{P, N}
use Rattle.settings.specs.declared.MacrocellField.{MacrocellField}
use Rattle.settings.specs.declared.BlockField.{BlockField}
use Rattle.settings.specs.declared.BlockField.TheVariants.{Enable, ExportEnable, PullupDisable, ReadProtA, ReadProtB, WriteProt}
use Rattle.settings.specs.declared.GlobalField.{GlobalField}
use Rattle.settings.specs.declared.GlobalField.TheVariants.{FsrInv, FclkInv, FoeInv, FclkMux, FoeMux, Usercode}
use Rattle.settings.specs.declared.Setting.{Setting}
use Rattle.settings.specs.declared.Setting.TheVariants.{Literal, WireAnd, Macrocell, Block, Global}
use Rattle.setting_places.specs.Places.{main, wire_and, literal_row, first_row, rows, block_place, global_place, global_bits, place_of}
use Rattle.setting_places.specs.Places.{bits_of}
use Rattle.part.proofs.Tables.{all_below, below_all}
use Rattle.settings.proofs.FieldIndices.{block_0, few, numbered, macrocell_at}

-- The macrocell fields' rows: from 12 to 54.
abbrev rows_right : ℕ → ℕ → Bool
rows_right i bit =
    not (ltb bit (rows (macrocell_field_at i)))
    || (ltb 11 (first_row (macrocell_field_at i)) && ltb (first_row (macrocell_field_at i) + bit) 55)

pub rows_few : (i : ℕ) → i < macrocell_fields → rows (macrocell_field_at i) ≤ 3
rows_few i h = le (below_all (λ i. ltb (rows (macrocell_field_at i)) 4) macrocell_fields refl i h)
  where
    le : ltb (rows (macrocell_field_at i)) 4 ≡ true → rows (macrocell_field_at i) ≤ 3
    le e = let l : rows (macrocell_field_at i) < 4 = ltb-true _ 4 e in omega arith

-- What holds of a row of a field.
pub record OnRow (f : MacrocellField) (bit : ℕ) : Type 0 where
  pub from : 12 ≤ first_row f
  pub up_to : first_row f + bit < 55

pub on_row_at : (i bit : ℕ) → i < macrocell_fields → bit < rows (macrocell_field_at i) → OnRow (macrocell_field_at i) bit
on_row_at i bit h hb =
    let few = rows_few i h in
    let test = below_all (rows_right i) 3 (below_all (λ i. all_below (rows_right i) 3) macrocell_fields refl i h) bit (omega arith) in
    let facts = simp tests at (rw (lt-ltb bit (rows (macrocell_field_at i)) hb) at test) in
    record { from = omega arith; up_to = facts.1 }

pub on_row : (f : MacrocellField) (bit : ℕ) → macrocell_index f < macrocell_fields → bit < rows f → OnRow f bit
on_row f bit h hb =
    let same = macrocell_at f h in
    subst (λ g. OnRow g bit) same (on_row_at (macrocell_index f) bit h (rw same hb))

-- A bit of the main area: below 6 in any column, below 8 in columns 0 to 8.
low_place : (d : Device) (block row column bit : ℕ) → block < blocks_of d → row < 72 → column < 15 → bit < 6
    → has_place d (main block row column bit) ≡ true
unfolding has_place
low_place d block row column bit hb hr hc h =
    simp tests (((hb, hr), hc), by_cases (λ w. bit < w) column 9 (λ l. omega arith) (λ g. h))

high_place : (d : Device) (block row column bit : ℕ) → block < blocks_of d → row < 72 → column < 9 → bit < 8
    → has_place d (main block row column bit) ≡ true
unfolding has_place
high_place d block row column bit hb hr hc h =
    simp tests (((hb, hr), omega arith), by_cases (λ w. bit < w) column 9 (λ l. h) (λ g. absurd (omega arith)))

wire_and_place : (d : Device) (block subarea row column bit : ℕ) → block < blocks_of d → subarea < blocks_of d → row < 18
    → column + 5 * bit < 36 → column < 5 → has_place d (wire_and block subarea row column bit) ≡ true
unfolding has_place
wire_and_place d block subarea row column bit hb hs hr h hc =
    simp tests ((((hb, hs), hr), hc), by_cases (λ w. bit < w) column 1 (λ l. omega arith) (λ g. omega arith))

literal_row_lem : (l : ℕ) (p : Polarity) → l < 36 → literal_row l p < 72
literal_row_lem l P h = omega arith
literal_row_lem l N h = omega arith

global_place_lem : (d : Device) (f : GlobalField) (bit : ℕ) → known d ≡ true
    → global_index (foes d) f < global_fields (foes d) → bit < global_bits f → has_place d (global_place f bit) ≡ true
global_place_lem d FsrInv bit k h hb = high_place d 0 0 1 6 (block_0 d k) (omega arith) (omega arith) (omega arith)
global_place_lem d (FclkInv c) bit k h hb =
    let l = numbered c 3 1 _ h in high_place d 0 0 (2 + c) 6 (block_0 d k) (omega arith) (omega arith) (omega arith)
global_place_lem d (FoeInv e) bit k h hb =
    let l = numbered e (foes d) 4 _ h in
    high_place d 0 0 (5 + e) 6 (block_0 d k) (omega arith) (omega (arith, few d)) (omega arith)
global_place_lem d (FclkMux c) bit k h hb =
    let l = numbered c 3 (4 + foes d) _ h in high_place d 0 (3 + bit) (2 + c) 6 (block_0 d k) (omega arith) (omega arith) (omega arith)
global_place_lem d (FoeMux e) bit k h hb =
    let l = numbered e (foes d) (4 + foes d + 3) _ h in
    high_place d 0 (3 + bit) (5 + e) 6 (block_0 d k) (omega arith) (omega (arith, few d)) (omega arith)
global_place_lem d Usercode bit k h hb =
    high_place d 0 (7 - bit / 16) (7 - bit % 16 / 2) (6 + bit % 2) (block_0 d k) (omega arith) (omega arith) (omega arith)

block_place_lem : (d : Device) (block : ℕ) (f : BlockField) → block < blocks_of d → has_place d (block_place block f) ≡ true
block_place_lem d block Enable h = high_place d block 67 0 6 h (omega arith) (omega arith) (omega arith)
block_place_lem d block ExportEnable h = high_place d block 67 1 6 h (omega arith) (omega arith) (omega arith)
block_place_lem d block PullupDisable h = high_place d block 68 6 6 h (omega arith) (omega arith) (omega arith)
block_place_lem d block ReadProtA h = high_place d block 11 3 6 h (omega arith) (omega arith) (omega arith)
block_place_lem d block ReadProtB h = high_place d block 68 3 6 h (omega arith) (omega arith) (omega arith)
block_place_lem d block WriteProt h = high_place d block 68 0 6 h (omega arith) (omega arith) (omega arith)

-- Each bit of a setting that the device has lies at a place that the device has.
pub has_place_lem : (d : Device) (s : Setting) (bit : ℕ) → known d ≡ true → has_setting d s ≡ true → bit < bits_of s
    → has_place d (place_of s bit) ≡ true
unfolding has_setting bits_of place_of
has_place_lem d (Literal block j k l polarity) bit kn h hb =
    let facts = simp tests at h in
    low_place d block (literal_row l polarity) (k + 5 * (j % 3)) (j / 3) facts.0.0.0 (literal_row_lem l polarity facts.1)
    (omega arith) (omega arith)
has_place_lem d (WireAnd i j k l) bit kn h hb =
    let facts = simp tests at h in
    wire_and_place d i k l (j % 5) (j / 5) facts.0.0.0 facts.0.1 facts.1 (omega arith) (omega arith)
has_place_lem d (Macrocell block m field) bit kn h hb =
    let facts = simp tests at h in
    let row = on_row field bit facts.1 hb in
    high_place d block (first_row field + bit) (m % 9) (6 + m / 9) facts.0.0 (omega (arith, row.up_to)) (omega arith) (omega arith)
has_place_lem d (Block block field) bit kn h hb = block_place_lem d block field (ltb-true _ _ h)
has_place_lem d (Global field) bit kn h hb = global_place_lem d field bit kn (ltb-true _ _ h) hb

-- So does the place that code has found for it.
pub place_there : (d : Device) (s : Setting) (bit : ℕ) (p : Place) → known d ≡ true → has_setting d s ≡ true → bit < bits_of s
    → p ≡ place_of s bit → has_place d p ≡ true
place_there d s bit p k h hb e = rw e (has_place_lem d s bit k h hb)
