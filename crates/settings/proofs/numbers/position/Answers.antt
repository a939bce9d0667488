-- `position` meets its contract: what is added up so far is at most the whole position, since each index that is left has a value.
-- Assumes nothing.
use mathlib.Core.Path.{◌≡◌}
use mathlib.Core.List.{List, [], ◌∷◌, map}
use Prim.Native.Nat.{ℕ, zero, suc, ◌+◌, ◌*◌, ◌<◌, ◌≤◌}
use native.Mathlib.Omega.{arith}
use native.Mathlib.Nat.{le-mul_of_pos_right}
use lib.ListN.{get_or, drop, length}
use borrow.Author.Rules.{rules}
use Rattle.part.proofs.Facts.{compared}
use Rattle.settings.specs.Order.{product, position}
use Rattle.settings.proofs.numbers.position.Goals as goal

abbrev bounds : List (ℕ × ℕ) → List ℕ
bounds = map (λ x. x.1)

abbrev indices : List (ℕ × ℕ) → List ℕ
indices = map (λ x. x.0)

-- If all indices have values, so have those after the first.
others : (b p : ℕ) → 0 < b * p → 0 < p
others b p h = compared 0 p (λ l. l) (λ g. absurd (none (omega arith)))
  where
    none : p ≡ 0 → ⊥
    none e = let z : 0 < b * 0 = rw e at h in omega arith

so_far : (xs : List (ℕ × ℕ)) (i before whole : ℕ) (past : ℕ × ℕ) → i < length xs → 0 < product (bounds xs)
    → before * product (bounds (drop i xs)) + position (bounds (drop i xs)) (indices (drop i xs)) ≡ whole
    → before * (get_or xs i past).1 + (get_or xs i past).0 ≤ whole
so_far [] i before whole past l p e = absurd (omega arith)
so_far (x ∷ xs) zero before whole past l p e =
    omega (arith, le-mul_of_pos_right (before * x.1 + x.0) (others x.1 (product (bounds xs)) p))
so_far (x ∷ xs) (suc i) before whole past l p e =
    so_far xs i before whole past (omega arith) (others x.1 (product (bounds xs)) p) e

pub overflow_mul-before : goal.overflow_mul-before
overflow_mul-before g c =
    omega (arith, c.requires.fits, so_far c.args.indices _ _ _ (0, 0) (search rules) c.requires.some c.loop-index.invariant)

pub overflow_add-before : goal.overflow_add-before
overflow_add-before g c =
    omega (arith, c.requires.fits, so_far c.args.indices _ _ _ (0, 0) (search rules) c.requires.some c.loop-index.invariant)
