-- How many cells are within their width: in two parts, in bytes of 8 bits, and by a mask over bytes taken as one word.
-- Assumes nothing.
use mathlib.Core.Path.{◌≡◌, refl, sym, ◌∙◌, ap, subst}
use mathlib.Core.Bool.{Bool, true, false, cond}
use mathlib.Core.List.{List, [], ◌∷◌, ◌++◌}
use Prim.Native.Nat.{ℕ, zero, suc, ◌+◌, ◌*◌, ◌-◌, ◌/◌, ◌%◌, ◌^◌, ◌≤◌, ◌<◌, suc-le-suc}
use native.Mathlib.Omega.{arith}
use native.Mathlib.Nat.{zero-add, suc-add, div-eq_of_lt, not-suc-le-zero, le_of_suc-le-suc, mod-lt, mod-eq_of_lt, mul-le-mul}
use native.Mathlib.Numerals.{one-add}
use lib.Bits.{bit_and, and_block, and_high}
use lib.Dec.{eqb}
use lib.ListN.{length, get_or, drop, replicate}
use lib.Pow.{pow_pos, pow-sub-lt, shr_mod}
use lib.Seq.{drop-drop, get_or-drop}
use mir.Syntax.{w8}
use mir.Val.{Fits}
use borrow.Author.Tests.{eq-eqb, eqb-true, eqb-false}
use Rattle.cells.specs.Cells.{join}
use Rattle.part.proofs.Facts.{compared}
use Rattle.readout_rows.specs.Widths.{cells_within, above_mask}

-- A cell is within its width or has a bit above it.
cell_case : (P : ℕ → Type 0) (w : ℕ) (ws cells : List ℕ) → (get_or cells 0 0 / 2 ^ w ≡ 0 → P (suc (cells_within ws (drop 1 cells))))
    → ((get_or cells 0 0 / 2 ^ w ≡ 0 → ⊥) → P 0) → P (cells_within (w ∷ ws) cells)
unfolding cells_within
cell_case P w ws cells good bad = go (eqb (get_or cells 0 0 / 2 ^ w) 0) refl
  where
    go : (t : Bool) → eqb (get_or cells 0 0 / 2 ^ w) 0 ≡ t → P (cond t (suc (cells_within ws (drop 1 cells))) 0)
    go true e = good (eqb-true _ _ e)
    go false e = bad (eqb-false _ _ e)

pub within_le : (ws cells : List ℕ) → cells_within ws cells ≤ length ws
unfolding cells_within
within_le [] cells = omega arith
within_le (w ∷ ws) cells =
    cell_case (λ x. x ≤ suc (length ws)) w ws cells (λ g. omega (arith, within_le ws (drop 1 cells))) (λ b. omega arith)

-- Cells in two parts: all of the first are within their widths, or not.
pub within_on : (ws vs cells : List ℕ) → length ws ≤ cells_within ws cells
    → cells_within (ws ++ vs) cells ≡ length ws + cells_within vs (drop (length ws) cells)
unfolding cells_within
within_on [] vs cells h = sym (zero-add (cells_within vs cells))
within_on (w ∷ ws) vs cells h = go (within_on ws vs (drop 1 cells)) (eqb (get_or cells 0 0 / 2 ^ w) 0) h
  where
    go : (length ws ≤ cells_within ws (drop 1 cells)
        → cells_within (ws ++ vs) (drop 1 cells) ≡ length ws + cells_within vs (drop (length ws) (drop 1 cells)))
        → (t : Bool) → suc (length ws) ≤ cond t (suc (cells_within ws (drop 1 cells))) 0
        → cond t (suc (cells_within (ws ++ vs) (drop 1 cells))) 0 ≡ suc (length ws) + cells_within vs (drop (suc (length ws)) cells)
    go ih true g = rw (suc-add, ← one-add (length ws), ← drop-drop (length ws) 1 cells) (ap suc (ih (le_of_suc-le-suc g)))
    go ih false g = absurd (not-suc-le-zero g)

pub within_found : (ws vs cells : List ℕ) → cells_within ws cells < length ws → cells_within (ws ++ vs) cells ≡ cells_within ws cells
unfolding cells_within
within_found [] vs cells h = absurd (not-suc-le-zero h)
within_found (w ∷ ws) vs cells h = go (within_found ws vs (drop 1 cells)) (eqb (get_or cells 0 0 / 2 ^ w) 0) h
  where
    go : (cells_within ws (drop 1 cells) < length ws → cells_within (ws ++ vs) (drop 1 cells) ≡ cells_within ws (drop 1 cells)) → (t : Bool)
        → cond t (suc (cells_within ws (drop 1 cells))) 0 < suc (length ws)
        → cond t (suc (cells_within (ws ++ vs) (drop 1 cells))) 0 ≡ cond t (suc (cells_within ws (drop 1 cells))) 0
    go ih true g = ap suc (ih (le_of_suc-le-suc g))
    go ih false g = refl

-- Only as many cells count as there are widths.
pub within_front : (ws x rest : List ℕ) → length ws ≤ length x → cells_within ws (x ++ rest) ≡ cells_within ws x
unfolding cells_within
within_front [] x rest h = refl
within_front (w ∷ ws) [] rest h = absurd (not-suc-le-zero h)
within_front (w ∷ ws) (c ∷ x) rest h =
    ap (λ (k : ℕ). cond (eqb (c / 2 ^ w) 0) (suc k) 0) (within_front ws x rest (le_of_suc-le-suc h))

-- Bytes have no bit above a width of 8.
pub bytes_within : (k : ℕ) (cells : List ℕ) → ((i : ℕ) → Fits w8 (get_or cells i 0)) → k ≤ cells_within (replicate k 8) cells
unfolding cells_within
bytes_within zero cells h = omega arith
bytes_within (suc k) cells h =
    let none : get_or cells 0 0 / 2 ^ 8 ≡ 0 = div-eq_of_lt (h 0).fits in
    rw (eq-eqb (get_or cells 0 0 / 2 ^ 8) 0 none)
    (suc-le-suc (bytes_within k (drop 1 cells) (λ i. rw (get_or-drop 1 cells i 0) (h (1 + i)))))

-- The cells before the first bit above a width are within theirs, and the cell there is not.
pub within_before : (ws cells : List ℕ) (i : ℕ) → i < cells_within ws cells → get_or cells i 0 / 2 ^ get_or ws i 0 ≡ 0
unfolding cells_within
within_before [] cells i h = absurd (not-suc-le-zero h)
within_before (w ∷ ws) cells i h = go i (eqb (get_or cells 0 0 / 2 ^ w) 0) refl (within_before ws (drop 1 cells)) h
  where
    go : (i : ℕ) (t : Bool) → eqb (get_or cells 0 0 / 2 ^ w) 0 ≡ t
        → ((j : ℕ) → j < cells_within ws (drop 1 cells) → get_or (drop 1 cells) j 0 / 2 ^ get_or ws j 0 ≡ 0)
        → i < cond t (suc (cells_within ws (drop 1 cells))) 0 → get_or cells i 0 / 2 ^ get_or (w ∷ ws) i 0 ≡ 0
    go zero true e ih g = eqb-true _ _ e
    go (suc i) true e ih g = rw (get_or-drop 1 cells i 0, one-add) at (ih i (le_of_suc-le-suc g))
    go zero false e ih g = absurd (not-suc-le-zero g)
    go (suc i) false e ih g = absurd (not-suc-le-zero g)

pub above_at_lem : (ws cells : List ℕ) → cells_within ws cells < length ws
    → get_or cells (cells_within ws cells) 0 / 2 ^ get_or ws (cells_within ws cells) 0 ≡ 0 → ⊥
unfolding cells_within
above_at_lem [] cells h e = not-suc-le-zero h
above_at_lem (w ∷ ws) cells h e = go (eqb (get_or cells 0 0 / 2 ^ w) 0) refl (above_at_lem ws (drop 1 cells)) h e
  where
    go : (t : Bool) → eqb (get_or cells 0 0 / 2 ^ w) 0 ≡ t
        → (cells_within ws (drop 1 cells) < length ws
        → get_or (drop 1 cells) (cells_within ws (drop 1 cells)) 0 / 2 ^ get_or ws (cells_within ws (drop 1 cells)) 0 ≡ 0 → ⊥)
        → cond t (suc (cells_within ws (drop 1 cells))) 0 < suc (length ws)
        → get_or cells (cond t (suc (cells_within ws (drop 1 cells))) 0) 0
        / 2 ^ get_or (w ∷ ws) (cond t (suc (cells_within ws (drop 1 cells))) 0) 0 ≡ 0 → ⊥
    go true f ih g z = ih (le_of_suc-le-suc g) (rw (get_or-drop 1 cells (cells_within ws (drop 1 cells)) 0, one-add) z)
    go false f ih g z = eqb-false _ _ f z

-- Bytes are within a width if, taken as one word, they have no bit of the mask.
pub masked_within : (k w : ℕ) (cells : List ℕ) → w ≤ 8 → ((i : ℕ) → Fits w8 (get_or cells i 0))
    → bit_and (join (replicate k 8) cells) (above_mask k w) ≡ 0 → k ≤ cells_within (replicate k w) cells
unfolding cells_within join above_mask
masked_within zero w cells h bytes e = omega arith
masked_within (suc k) w cells h bytes e =
    let c = get_or cells 0 0 in
    let high = bit_and (join (replicate k 8) (drop 1 cells)) (above_mask k w) in
    let small : 2 ^ 8 - 2 ^ w < 2 ^ 8 = pow-sub-lt 8 (pow_pos w) in
    let parts : high * 2 ^ 8 + bit_and (c % 2 ^ 8) (2 ^ 8 - 2 ^ w) ≡ 0 =
    sym (and_block 8 (join (replicate k 8) (drop 1 cells)) (above_mask k w) (c % 2 ^ 8) (2 ^ 8 - 2 ^ w) (mod-lt c (pow_pos 8)) small) ∙ e in
    let whole : 8 - w + w ≡ 8 = omega arith in
    let top : bit_and (c % 2 ^ 8) (2 ^ 8 - 2 ^ w) ≡ (c % 2 ^ 8 / 2 ^ w % 2 ^ (8 - w)) * 2 ^ w =
    subst (λ (j : ℕ). bit_and (c % 2 ^ 8) (2 ^ j - 2 ^ w) ≡ (c % 2 ^ 8 / 2 ^ w % 2 ^ (8 - w)) * 2 ^ w) whole
    (and_high (c % 2 ^ 8) (8 - w) w) in
    let zero-top : (c % 2 ^ 8 / 2 ^ w % 2 ^ (8 - w)) * 2 ^ w ≡ 0 = sym top ∙ omega arith in
    let byte : c % 2 ^ 8 ≡ c = mod-eq_of_lt (bytes 0).fits in
    let quotient : c / 2 ^ w % 2 ^ (8 - w) ≡ 0 = no_factor (c / 2 ^ w % 2 ^ (8 - w)) w (rw byte at zero-top) in
    let none : c / 2 ^ w ≡ 0 = sym (shr_mod (8 - w) w (subst (λ (j : ℕ). c < 2 ^ j) (sym whole) (bytes 0).fits)) ∙ quotient in
    rw (eq-eqb (c / 2 ^ w) 0 none)
    (suc-le-suc (masked_within k w (drop 1 cells) h (λ i. rw (get_or-drop 1 cells i 0) (bytes (1 + i))) (omega arith)))
  where
    no_factor : (x w : ℕ) → x * 2 ^ w ≡ 0 → x ≡ 0
    no_factor x w e =
        compared 0 x (λ some. absurd (omega (arith, mul-le-mul {n₁ = 1} {m₁ = 1} some (pow_pos w)))) (λ none. omega arith)
