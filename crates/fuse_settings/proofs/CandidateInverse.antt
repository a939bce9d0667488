-- The candidate at the place of a bit of a setting is that setting and that bit, and the field at a row starts at or before it.
-- Stated once for every device.
use mathlib.Core.Path.{◌≡◌, refl, ◌∙◌, ap, subst}
use mathlib.Core.Bool.{Bool, true, not, ◌&&◌, ◌||◌}
use Prim.Native.Nat.{ℕ, ◌+◌, ◌*◌, ◌-◌, ◌/◌, ◌%◌, ◌<◌, ◌≤◌}
use native.Mathlib.Omega.{arith}
use lib.Dec.{ltb, eqb}
use borrow.Author.Tests.{lt-ltb, le-ltb, eqb-true, ltb-true}
use Rattle.part.specs.declared.Device.{Device}
use Rattle.part.proofs.Facts.{and_iff, tests}
use Rattle.settings.specs.Fields.{foes, macrocell_fields, macrocell_index, global_fields, global_index}
use Rattle.settings.specs.Settings.{has_setting}
use Rattle.settings.specs.Order.{macrocell_field_at}
use Rattle.settings.specs.declared.Polarity.{Polarity}
use Rattle.settings.specs.declared.Polarity.TheVariants.{P, N}
use Rattle.settings.specs.declared.MacrocellField.{MacrocellField}
use Rattle.settings.specs.declared.BlockField.{BlockField}
use Rattle.settings.specs.declared.BlockField.TheVariants.{Enable, ExportEnable, PullupDisable, ReadProtA, ReadProtB, WriteProt}
use Rattle.settings.specs.declared.GlobalField.{GlobalField}
use Rattle.settings.specs.declared.GlobalField.TheVariants.{FsrInv, FclkInv, FoeInv, FclkMux, FoeMux, Usercode}
use Rattle.settings.specs.declared.Setting.{Setting}
use Rattle.settings.specs.declared.Setting.TheVariants.{Literal, WireAnd, Macrocell, Block, Global}
use Rattle.setting_places.specs.Places.{literal_row, first_row, rows, block_place, global_place, global_bits, place_of}
use Rattle.setting_places.specs.Places.{bits_of}
use Rattle.fuse_settings.specs.Back.{polarity_of_row, last_up_to, field_index_at_row, field_at_row, global_bit_near, candidate_in_main}
use Rattle.fuse_settings.specs.Back.{candidate_at}
use Rattle.fuse_settings.specs.declared.SettingBit.{SettingBit}
use Rattle.part.proofs.Tables.{all_below, below_all, Each, each_below}
use Rattle.settings.proofs.FieldIndices.{few, numbered, macrocell_at}
use Rattle.setting_places.proofs.OnePlaceEach.{rows_few, on_row}

-- A macrocell field is found at each of its rows.
abbrev found_at_row : ℕ → ℕ → Bool
found_at_row i bit =
    not (ltb bit (rows (macrocell_field_at i))) || eqb (field_index_at_row (first_row (macrocell_field_at i) + bit)) i

found_all : all_below (λ i. all_below (found_at_row i) 3) macrocell_fields ≡ true
unfolding field_index_at_row last_up_to
found_all = refl

found_at : (i bit : ℕ) → i < macrocell_fields → bit < rows (macrocell_field_at i)
    → field_index_at_row (first_row (macrocell_field_at i) + bit) ≡ i
found_at i bit h hb =
    let few = rows_few i h in
    let test = below_all (found_at_row i) 3 (below_all (λ i. all_below (found_at_row i) 3) macrocell_fields found_all i h) bit (omega arith)
    in
    eqb-true _ i (rw (lt-ltb bit (rows (macrocell_field_at i)) hb) at test)

found_at_row_lem : (f : MacrocellField) (bit : ℕ) → macrocell_index f < macrocell_fields → bit < rows f
    → field_at_row (first_row f + bit) ≡ f
found_at_row_lem f bit h hb =
    let same = macrocell_at f h in
    let there = found_at (macrocell_index f) bit h (rw same hb) in
    ap macrocell_field_at (rw same at there) ∙ same

-- The field at a row starts at or before it.
pub at_row : (row : ℕ) → 12 ≤ row → row < 55 → (field_index_at_row row < macrocell_fields) × (first_row (field_at_row row) ≤ row)
unfolding field_index_at_row last_up_to
at_row row low high =
    let back : 12 + (row - 12) ≡ row = omega arith in
    let test = below_all (λ i. ltb (field_index_at_row (12 + i)) macrocell_fields && ltb (first_row (field_at_row (12 + i))) (12 + i + 1))
    43 refl
    (row - 12) (omega arith) in
    subst (λ r. (field_index_at_row r < macrocell_fields) × (first_row (field_at_row r) ≤ r)) back (passed (12 + (row - 12)) test)
  where
    passed : (r : ℕ) → (ltb (field_index_at_row r) macrocell_fields && ltb (first_row (field_at_row r)) (r + 1)) ≡ true
        → (field_index_at_row r < macrocell_fields) × (first_row (field_at_row r) ≤ r)
    passed r h = let facts = (and_iff (ltb (field_index_at_row r) macrocell_fields) (ltb (first_row (field_at_row r)) (r + 1))).0 h in
        let less = ltb-true (first_row (field_at_row r)) (r + 1) facts.1 in (ltb-true _ _ facts.0, omega arith)

-- The candidate at each place: a setting and a bit.
abbrev pub candidate : Setting → ℕ → SettingBit
candidate s bit = record { setting = s; bit = bit }

first_bit : (s : Setting) (bit : ℕ) → bit < 1 → candidate s 0 ≡ candidate s bit
first_bit s bit h = let same : 0 ≡ bit = omega arith in ap (candidate s) same

-- Below bit 6 stands a literal.
literal_at : (block j k l : ℕ) (p : Polarity) (row : ℕ) → j < 18 → k < 5 → row / 2 ≡ l → polarity_of_row row ≡ p
    → candidate_in_main block row (k + 5 * (j % 3)) (j / 3) ≡ candidate (Literal block j k l p) 0
literal_at block j k l p row hj hk e f =
    let column = k + 5 * (j % 3) in
    let macrocell : column / 5 + 3 * (j / 3) ≡ j = omega arith in
    let term : column % 5 ≡ k = omega arith in
    rw (lt-ltb (j / 3) 6 (omega arith), macrocell, term, e, f)

at_literal : (block j k l : ℕ) (p : Polarity) → j < 18 → k < 5
    → candidate_in_main block (literal_row l p) (k + 5 * (j % 3)) (j / 3) ≡ candidate (Literal block j k l p) 0
at_literal block j k l P hj hk =
    let odd : (2 * l + 1) % 2 ≡ 1 = omega arith in
    literal_at block j k l P (2 * l + 1) hj hk (omega arith) (rw odd)
at_literal block j k l N hj hk =
    let even : (2 * l) % 2 ≡ 0 = omega arith in
    literal_at block j k l N (2 * l) hj hk (omega arith) (rw even)

at_macrocell : (block m : ℕ) (f : MacrocellField) (bit : ℕ) → m < 18 → macrocell_index f < macrocell_fields → bit < rows f
    → candidate_in_main block (first_row f + bit) (m % 9) (6 + m / 9) ≡ candidate (Macrocell block m f) bit
at_macrocell block m f bit hm h hb =
    let row = on_row f bit h hb in
    let r = first_row f + bit in
    let low : 12 ≤ r = omega (arith, row.from) in
    let field : field_at_row r ≡ f = found_at_row_lem f bit h hb in
    let macrocell : m % 9 + 9 * (6 + m / 9 - 6) ≡ m = omega arith in
    let back : r - first_row f ≡ bit = omega arith in
    rw (le-ltb (6 + m / 9) 6 (omega arith), le-ltb r 11 (omega arith), le-ltb r 12 low, lt-ltb r 55 row.up_to, field, macrocell, back)

at_block : (block : ℕ) (f : BlockField) → candidate_at (block_place block f) ≡ candidate (Block block f) 0
unfolding candidate_at
at_block block Enable = refl
at_block block ExportEnable = refl
at_block block PullupDisable = refl
at_block block ReadProtA = refl
at_block block ReadProtB = refl
at_block block WriteProt = refl

-- The bits of USERCODE, all of them in one test.
abbrev usercode_right : ℕ → Bool
usercode_right bit =
    ltb (7 - bit / 16) 8 && ltb 5 (7 - bit / 16) && eqb (global_bit_near (7 - bit / 16) (7 - bit % 16 / 2) (6 + bit % 2)) bit

usercode_right_lem : (bit : ℕ) → bit < 32 → usercode_right bit ≡ true
usercode_right_lem = below_all usercode_right 32 refl

abbrev Near : GlobalField → ℕ → Type 0
Near f bit = candidate_at (global_place f bit) ≡ candidate (Global f) bit

at_global : (d : Device) (f : GlobalField) (bit : ℕ) → global_index (foes d) f < global_fields (foes d) → bit < global_bits f → Near f bit
unfolding candidate_at
at_global d FsrInv bit h hb = each_below (Near FsrInv) 1 (refl, tt) bit hb
at_global d (FclkInv c) bit h hb =
    each_below (Near (FclkInv c)) 1
    (each_below (λ c. Each (Near (FclkInv c)) 1) 3 ((refl, tt), ((refl, tt), ((refl, tt), tt))) c (numbered c 3 1 _ h))
    bit hb
at_global d (FoeInv e) bit h hb =
    let l = numbered e (foes d) 4 _ h in
    each_below (Near (FoeInv e)) 1
    (each_below (λ e. Each (Near (FoeInv e)) 1) 4 ((refl, tt), ((refl, tt), ((refl, tt), ((refl, tt), tt)))) e (omega (arith, few d)))
    bit hb
at_global d (FclkMux c) bit h hb =
    each_below (Near (FclkMux c)) 2
    (each_below (λ c. Each (Near (FclkMux c)) 2) 3 ((refl, (refl, tt)), ((refl, (refl, tt)), ((refl, (refl, tt)), tt))) c
    (numbered c 3 (4 + foes d) _ h))
    bit hb
at_global d (FoeMux e) bit h hb =
    let l = numbered e (foes d) (4 + foes d + 3) _ h in
    each_below (Near (FoeMux e)) 2
    (each_below (λ e. Each (Near (FoeMux e)) 2) 4
    ((refl, (refl, tt)), ((refl, (refl, tt)), ((refl, (refl, tt)), ((refl, (refl, tt)), tt)))) e (omega (arith, few d)))
    bit hb
at_global d Usercode bit h hb =
    let facts = (and_iff (ltb (7 - bit / 16) 8 && ltb 5 (7 - bit / 16)) _).0 (usercode_right_lem bit hb) in
    let range = simp tests at facts.0 in
    let same : global_bit_near (7 - bit / 16) (7 - bit % 16 / 2) (6 + bit % 2) ≡ bit = eqb-true _ bit facts.1 in
    rw (le-ltb (6 + bit % 2) 6 (omega arith), lt-ltb (7 - bit / 16) 11 (omega arith), lt-ltb 5 (7 - bit / 16) range.1, same)

-- The candidate at the place of a bit of a setting is that setting and that bit.
pub candidate_inverse : (d : Device) (s : Setting) (bit : ℕ) → has_setting d s ≡ true → bit < bits_of s
    → candidate_at (place_of s bit) ≡ candidate s bit
unfolding candidate_at has_setting bits_of place_of
candidate_inverse d (Literal block j k l polarity) bit h hb =
    let facts = simp tests at h in
    at_literal block j k l polarity facts.0.0.1 facts.0.1 ∙ first_bit (Literal block j k l polarity) bit hb
candidate_inverse d (WireAnd i j k l) bit h hb =
    let input : j % 5 + 5 * (j / 5) ≡ j = omega arith in rw input (first_bit (WireAnd i j k l) bit hb)
candidate_inverse d (Macrocell block m field) bit h hb =
    let facts = simp tests at h in at_macrocell block m field bit facts.0.1 facts.1 hb
candidate_inverse d (Block block field) bit h hb = at_block block field ∙ first_bit (Block block field) bit hb
candidate_inverse d (Global field) bit h hb = at_global d field bit (ltb-true _ _ h) hb
