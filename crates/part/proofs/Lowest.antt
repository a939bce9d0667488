-- What `lowest` finds, and that nothing else is the lowest.
-- Assumes nothing.
use mathlib.Core.Path.{◌≡◌, refl, sym, ◌∙◌, subst}
use mathlib.Core.Logic.{◌↔◌}
use mathlib.Core.Bool.{Bool, true, false, cond, true≢false}
use Prim.Native.Nat.{ℕ, zero, suc, ◌+◌, ◌≤◌, ◌<◌}
use native.Mathlib.Omega.{arith}
use Rattle.part.specs.Lowest.{lowest_from, lowest, IsLowest}
use Rattle.part.proofs.Facts.{compared}

module _ (test : ℕ → Bool) where
  -- The search from a number on: numbers between it and what is found fail.
  record Found (from count k : ℕ) : Type 0 where
    not_before : from ≤ k
    at_most : k ≤ from + count
    between_fail : (i : ℕ) → from ≤ i → i < k → test i ≡ false
    passes : k < from + count → test k ≡ true

  found : (from count : ℕ) → Found from count (lowest_from test from count)
  unfolding lowest_from
  found from zero =
      record {
        not_before = omega arith;
        at_most = omega arith;
        between_fail = λ i g h. absurd (omega arith);
        passes = λ h. absurd (omega arith);
      }
  found from (suc count) = go (test from) refl (found (from + 1) count)
    where
      go : (t : Bool) → test from ≡ t → Found (from + 1) count (lowest_from test (from + 1) count)
          → Found from (suc count) (cond t from (lowest_from test (from + 1) count))
      go true e f =
          record {
            not_before = omega arith;
            at_most = omega arith;
            between_fail = λ i g h. absurd (omega arith);
            passes = λ h. e;
          }
      go false e f =
          record {
            not_before = omega (arith, f.not_before);
            at_most = omega (arith, f.at_most);
            between_fail = λ i g h.
                compared from i (λ later. f.between_fail i (omega arith) h) (λ here. let same : i ≡ from = omega arith in rw same e);
            passes = λ h. f.passes (omega arith);
          }

  finds : (n : ℕ) → IsLowest test n (lowest test n)
  finds n =
      let f = found 0 n in
      record {
        at_most = omega (arith, f.at_most);
        lower_fail = λ i h. f.between_fail i (omega arith) h;
        passes = λ h. f.passes (omega arith);
      }

  -- Of two that are the lowest neither is below the other.
  not_below : (n k m : ℕ) → IsLowest test n k → IsLowest test n m → k < m → ⊥
  not_below n k m a b less = true≢false (sym (a.passes (omega (arith, b.at_most))) ∙ b.lower_fail k less)

  pub lowest_iff : (n k : ℕ) → (lowest test n ≡ k) ↔ IsLowest test n k
  lowest_iff n k = (
    λ e. subst (IsLowest test n) e (finds n),
    λ a.
        compared (lowest test n) k (λ less. absurd (not_below n _ k (finds n) a less)) (λ g.
        compared k (lowest test n) (λ less. absurd (not_below n k _ a (finds n) less)) (λ h. omega arith)),
  )
