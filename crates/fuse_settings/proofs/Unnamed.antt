-- The number of the unnamed fuses: of the main area of a block it is computed, over the bits that no literal has; no wire-AND fuse is
-- unnamed. Law `unnamed_count`.
use mathlib.Core.Path.{◌≡◌, refl, sym, ◌∙◌, ap, ap₂}
use mathlib.Core.Bool.{Bool, true, false, cond}
use Prim.Native.Nat.{ℕ, zero, suc, ◌+◌, ◌*◌, ◌-◌, ◌/◌, ◌%◌, ◌<◌}
use native.Mathlib.Omega.{arith}
use native.Mathlib.Nat.{add-zero, zero-add, mul-zero}
use lib.Arith.{digits_div, digits_mod, digits_lt}
use lib.Dec.{eqb}
use borrow.Author.Tests.{lt-ltb, le-ltb, ne_eqb}
use Rattle.part.specs.Device.{known, blocks_of, is_large, main_rows, main_columns, main_row_fuses, main_fuses, subarea_fuses, block_fuses, fuse_count}
use Rattle.part.specs.Place.{column_in_row, bit_in_row}
use Rattle.part.specs.declared.Device.{Device}
use Rattle.part.proofs.Fuses.{place_in_main_lem, place_in_wire_and_lem}
use Rattle.part.proofs.Sums.{sum, sum_same, sum_all, sum_add, sum_first, sum_times}
use Rattle.settings.specs.Fields.{foes}
use Rattle.settings.proofs.FieldIndices.{block_0}
use Rattle.setting_places.specs.Places.{bits_of, place_of}
use Rattle.fuse_settings.specs.Back.{candidate_in_main, field_index_at_row, last_up_to, setting_at}
use Rattle.fuse_settings.specs.Unnamed.{one_if_none, unnamed_below, UnnamedCount}
use Rattle.fuse_settings.proofs.NamedFuses.{named, literal_named, main_unnamed, wire_and_named}

-- The sum over a row of a main area, if what stands below bit 6 counts 0: columns 9 to 14 have no other bits, columns 0 to 8 have two.
module _ (fuse : ℕ → ℕ) (at : (column bit : ℕ) → ℕ)
    (same : (x : ℕ) → x < main_row_fuses → fuse x ≡ at (column_in_row 9 6 x) (bit_in_row 9 6 x))
    (low : (column bit : ℕ) → column < main_columns → bit < 6 → at column bit ≡ 0) where
  in_wide : (column bit : ℕ) → column < 9 → bit < 8 → fuse (column * 8 + bit) ≡ at column bit
  in_wide column bit hc hb =
      let x = column * 8 + bit in
      let there : x < 72 = omega arith in
      let left : x / 8 ≡ column = omega arith in
      let up : x % 8 ≡ bit = omega arith in
      same x (omega arith) ∙ rw (lt-ltb x 72 there, left, up)

  in_narrow : (x : ℕ) → x < 36 → fuse (72 + x) ≡ 0
  in_narrow x h =
      let column = 9 + (72 + x - 72) / 6 in
      let bit = (72 + x - 72) % 6 in
      same (72 + x) (omega arith) ∙ rw (le-ltb (72 + x) 72 (omega arith)) (low column bit (omega arith) (omega arith))

  wide_column : (column : ℕ) → column < 9 → sum (λ bit. fuse (column * 8 + bit)) 8 ≡ sum (λ i. at column (6 + i)) 2
  wide_column column h =
      sum_add (λ bit. fuse (column * 8 + bit)) 6 2
      ∙ ap₂ ◌+◌
      (sum_all (λ bit. fuse (column * 8 + bit)) 0 6 (λ bit l. in_wide column bit h (omega arith) ∙ low column bit (omega arith) l))
      (sum_same _ (λ i. at column (6 + i)) 2 (λ i l. in_wide column (6 + i) h (omega arith)))
      ∙ zero-add _

  row_sum : sum fuse main_row_fuses ≡ sum (λ column. sum (λ i. at column (6 + i)) 2) 9
  row_sum =
      sum_add fuse 72 36
      ∙ ap₂ ◌+◌
      (sum_times fuse 9 8 ∙ sum_same _ _ 9 wide_column)
      (sum_all (λ x. fuse (72 + x)) 0 36 in_narrow)
      ∙ add-zero _

-- 1 for a fuse of a main area that is unnamed.
abbrev unnamed_cell : (foeCount : ℕ) (first : Bool) (block row column bit : ℕ) → ℕ
unnamed_cell e first block row column bit = cond (named e first row column bit (candidate_in_main block row column bit)) 0 1

-- How many are unnamed in a main area, computed row by row.
abbrev unnamed_in_main : (foeCount : ℕ) (first : Bool) (block : ℕ) → ℕ
unnamed_in_main e first block = sum (λ row. sum (λ column. sum (λ i. unnamed_cell e first block row column (6 + i)) 2) 9) main_rows

in_first_block : (large : Bool) → unnamed_in_main (cond large 4 2) true 0 ≡ cond large 570 576
unfolding sum bits_of place_of field_index_at_row last_up_to
in_first_block true = refl
in_first_block false = refl

in_other_block : (e block : ℕ) → unnamed_in_main e false block ≡ 624
unfolding sum bits_of place_of field_index_at_row last_up_to
in_other_block e block = refl

abbrev unnamed_in_block : Device → ℕ → ℕ
unnamed_in_block d block = unnamed_in_main (foes d) (eqb 0 block) block

abbrev unnamed_at : Device → ℕ → ℕ
unnamed_at d f = one_if_none (setting_at d f)

-- The fuses of a block: those of its main area, and then those of its subareas.
module _ (d : Device) (k : known d ≡ true) (block : ℕ) (h : block < blocks_of d) where
  abbrev fuse : ℕ → ℕ
  fuse rest = block * block_fuses d + rest

  in_device_lem : (rest : ℕ) → rest < block_fuses d → fuse rest < fuse_count d
  unfolding fuse_count
  in_device_lem rest l = digits_lt {q = block} {m = blocks_of d} {r = rest} {c = block_fuses d} h l

  row_part : (row : ℕ) → row < main_rows
      → sum (λ x. unnamed_at d (fuse (row * main_row_fuses + x))) main_row_fuses
      ≡ sum (λ column. sum (λ i. unnamed_cell (foes d) (eqb 0 block) block row column (6 + i)) 2) 9
  row_part row hr =
      row_sum _ (unnamed_cell (foes d) (eqb 0 block) block row)
      (λ x hx.
      let rest = row * main_row_fuses + x in
      let l : rest < block_fuses d = omega arith in
      main_unnamed d k (fuse rest) (in_device_lem rest l) block row (column_in_row 9 6 x) (bit_in_row 9 6 x) h
      (place_in_main_lem d (fuse rest) block rest (sym (digits_div block l)) (sym (digits_mod block l)) _
      (rw (digits_div row hx, digits_mod row hx)) (omega arith)))
      (λ column bit hc hb. rw (literal_named (foes d) (eqb 0 block) block row column bit hr hc hb))

  main_part : sum (λ rest. unnamed_at d (fuse rest)) main_fuses ≡ unnamed_in_block d block
  main_part = sum_times (λ rest. unnamed_at d (fuse rest)) main_rows main_row_fuses ∙ sum_same _ _ main_rows row_part

  wire_and_part : sum (λ i. unnamed_at d (fuse (main_fuses + i))) (blocks_of d * subarea_fuses) ≡ 0
  wire_and_part =
      sum_all _ 0 _ (λ i hi.
      let rest = main_fuses + i in
      let l : rest < block_fuses d = omega arith in
      wire_and_named d k (fuse rest) (in_device_lem rest l) _ _ _ _ _
      (place_in_wire_and_lem d (fuse rest) block rest (sym (digits_div block l)) (sym (digits_mod block l)) _ refl (omega arith)))
      ∙ mul-zero _

  in_block_lem : sum (λ rest. unnamed_at d (fuse rest)) (block_fuses d) ≡ unnamed_in_block d block
  in_block_lem =
      sum_add (λ rest. unnamed_at d (fuse rest)) main_fuses (blocks_of d * subarea_fuses) ∙ rw (main_part, wire_and_part) (add-zero _)

below_sum : (d : Device) (n : ℕ) → unnamed_below d n ≡ sum (unnamed_at d) n
unfolding unnamed_below sum
below_sum d zero = refl
below_sum d (suc n) = ap (λ (x : ℕ). x + unnamed_at d n) (below_sum d n)

-- The first block and the others.
all_blocks : (d : Device) (n : ℕ) → sum (unnamed_in_block d) (1 + n) ≡ cond (is_large d) 570 576 + n * 624
all_blocks d n =
    sum_first (unnamed_in_block d) n
    ∙ ap₂ ◌+◌ (in_first_block (is_large d))
    (sum_all (λ i. unnamed_in_block d (1 + i)) 624 n
    (λ i l. rw (ne_eqb 0 (1 + i) (λ e. omega arith)) (in_other_block (foes d) (1 + i))))

pub unnamed_count : UnnamedCount
unfolding fuse_count
unnamed_count d k =
    let n = blocks_of d in
    let any : 0 < n = block_0 d k in
    let back : n ≡ 1 + (n - 1) = omega arith in
    counted (is_large d) n _ any
    (below_sum d (fuse_count d)
    ∙ sum_times (unnamed_at d) n (block_fuses d)
    ∙ sum_same _ (unnamed_in_block d) n (λ block h. in_block_lem d k block h)
    ∙ ap (sum (unnamed_in_block d)) back
    ∙ all_blocks d (n - 1))
  where
    counted : (large : Bool) (n x : ℕ) → 0 < n → x ≡ cond large 570 576 + (n - 1) * 624 → x ≡ 624 * n - cond large 54 48
    counted true n x h e = omega arith
    counted false n x h e = omega arith
