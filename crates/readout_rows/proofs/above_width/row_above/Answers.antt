-- `row_above` meets its contract, by the area.
-- Assumes nothing.
use Rattle.std.proofs.Common.{◌≡◌, refl, ◌∙◌, ℕ, ◌+◌, ◌-◌, ◌/◌, ◌^◌, ◌<◌, List, length, get_or, take, drop, replicate, bit_and, Fits, w8, w64, arith, rules}
use Rattle.std.proofs.lemmas.List.{take_rest, length-drop, length-replicate}
use Rattle.std.specs.Prelude.{Option, Some, None}
use Rattle.cells.specs.Cells.{join}
use Rattle.part.specs.declared.Area.{Area}
use Rattle.part.specs.declared.Area.TheVariants.{Main, WireAnd}
use Rattle.readout_rows.specs.Widths.{row_widths, first_over, above_mask}
use Rattle.readout_rows.proofs.RowSizes.{main_length, wire_and_length}
use Rattle.readout_rows.proofs.FirstOver.{over_found}
use Rattle.readout_rows.proofs.RowsAbove.{last_six, row_found, row_none, row_clear}
use Rattle.readout_rows.proofs.above_width.row_above.Goals as goal

-- What is looked for in the bytes of a row behind the first ones.
abbrev behind : (wide narrow : ℕ) → List ℕ → Option ℕ
behind wide narrow row =
    first_over (replicate (length (take (length row - wide) (drop wide row))) narrow) (take (length row - wide) (drop wide row))

all_behind : (wide narrow more : ℕ) (row : List ℕ) → length row ≡ wide + more
    → behind wide narrow row ≡ first_over (replicate more narrow) (drop wide row)
all_behind wide narrow more row e =
    let long : length (drop wide row) ≡ more = length-drop wide row ∙ omega arith in
    rw (take_rest, long)

few : (width n : ℕ) (xs : List ℕ) (i : ℕ) → Some i ≡ first_over (replicate n width) xs → i < n
few width n xs i e = omega (arith, (over_found (replicate n width) xs i e).1, length-replicate {A = ℕ} n width)

module _ (area : Area) (row : List ℕ) (size : length row ≡ length (row_widths area)) where
  main_small : (i : ℕ) → area ≡ Main → Some i ≡ behind 9 6 row → Fits w64 (9 + i)
  main_small i a e =
      omega (arith, few 6 6 (drop 9 row) i (e ∙ all_behind 9 6 6 row (omega (arith, main_length area a))))

  wire_and_small : (i : ℕ) → area ≡ WireAnd → Some i ≡ behind 1 7 row → Fits w64 (1 + i)
  wire_and_small i a e =
      omega (arith, few 7 4 (drop 1 row) i (e ∙ all_behind 1 7 4 row (omega (arith, wire_and_length area a))))

  module _ (bytes : (i : ℕ) → Fits w8 (get_or row i 0)) where
    main_clear : (word : ℕ) → area ≡ Main → word ≡ join (replicate 8 8) (drop 7 row) → bit_and (word / 2 ^ 16) 0xC0C0C0C0C0C0 ≡ 0
        → None ≡ first_over (row_widths area) row
    unfolding row_widths above_mask
    main_clear word a e z = rw a (row_clear row 9 6 6 bytes (word / 2 ^ 16) 0xC0C0C0C0C0C0 (omega arith) refl (last_six row word e) z)

    wire_and_clear : (word : ℕ) → area ≡ WireAnd → word ≡ join (replicate 4 8) (drop 1 row) → bit_and word 0x80808080 ≡ 0
        → None ≡ first_over (row_widths area) row
    unfolding row_widths above_mask
    wire_and_clear word a e z = rw a (row_clear row 1 7 4 bytes word 0x80808080 (omega arith) refl e z)

    main_found : (i : ℕ) → area ≡ Main → Some i ≡ behind 9 6 row → Some (9 + i) ≡ first_over (row_widths area) row
    unfolding row_widths
    main_found i a e = rw a (row_found row 9 6 6 bytes i (e ∙ all_behind 9 6 6 row (omega (arith, main_length area a))))

    wire_and_found : (i : ℕ) → area ≡ WireAnd → Some i ≡ behind 1 7 row → Some (1 + i) ≡ first_over (row_widths area) row
    unfolding row_widths
    wire_and_found i a e = rw a (row_found row 1 7 4 bytes i (e ∙ all_behind 1 7 4 row (omega (arith, wire_and_length area a))))

    main_none : (r : Option ℕ) → area ≡ Main → r ≡ None → None ≡ behind 9 6 row → r ≡ first_over (row_widths area) row
    unfolding row_widths
    main_none r a n e = n ∙ rw a (row_none row 9 6 6 bytes (e ∙ all_behind 9 6 6 row (omega (arith, main_length area a))))

    wire_and_none : (r : Option ℕ) → area ≡ WireAnd → r ≡ None → None ≡ behind 1 7 row → r ≡ first_over (row_widths area) row
    unfolding row_widths
    wire_and_none r a n e = n ∙ rw a (row_none row 1 7 4 bytes (e ∙ all_behind 1 7 4 row (omega (arith, wire_and_length area a))))

pub returns-then-word8-eq0 : goal.returns-then-word8-eq0
returns-then-word8-eq0 c = search (rules, main_clear, c.type_inv.row)

pub returns-in_err-run_above-in-Main : goal.returns-in_err-run_above-in-Main
returns-in_err-run_above-in-Main c = search (rules, main_none, c.type_inv.row)

pub overflow_add-result : goal.overflow_add-result
overflow_add-result c = search (rules, main_small)

pub returns-in_ok-run_above-in-Main : goal.returns-in_ok-run_above-in-Main
returns-in_ok-run_above-in-Main c = search (rules, main_found, c.type_inv.row)

pub returns-then-joined-eq0 : goal.returns-then-joined-eq0
returns-then-joined-eq0 c = search (rules, wire_and_clear, c.type_inv.row)

pub returns-in_err-run_above-in-WireAnd : goal.returns-in_err-run_above-in-WireAnd
returns-in_err-run_above-in-WireAnd c = search (rules, wire_and_none, c.type_inv.row)

pub overflow_add-result-in-WireAnd : goal.overflow_add-result-in-WireAnd
overflow_add-result-in-WireAnd c = search (rules, wire_and_small)

pub returns-in_ok-run_above-in-WireAnd : goal.returns-in_ok-run_above-in-WireAnd
returns-in_ok-run_above-in-WireAnd c = search (rules, wire_and_found, c.type_inv.row)
