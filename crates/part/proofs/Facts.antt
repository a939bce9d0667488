-- Tests turned into facts and back, and a law over `cond` by its two cases.
-- Assumes nothing.
use mathlib.Core.Path.{◌≡◌, refl, sym, ◌∙◌, ap}
use mathlib.Core.Logic.{◌↔◌}
use mathlib.Core.Bool.{Bool, true, false, cond, ◌&&◌, ◌||◌, true≢false}
use mathlib.Core.Option.{Option}
use mathlib.Core.Option.Option.{none, some}
use Prim.Native.Nat.{ℕ, suc, ◌+◌, ◌*◌, ◌-◌, ◌≤◌, ◌<◌}
use native.Mathlib.Omega.{arith}
use native.Mathlib.Nat.{suc-mul}
use lib.Dec.{ltb, eqb}
use borrow.Author.Tests.{ltb-true, ltb-false, lt-ltb, le-ltb, eqb-true, eq-eqb}

pub lt_iff : (a b : ℕ) → (ltb a b ≡ true) ↔ (a < b)
lt_iff a b = (ltb-true a b, lt-ltb a b)

pub eq_iff : (a b : ℕ) → (eqb a b ≡ true) ↔ (a ≡ b)
eq_iff a b = (eqb-true a b, eq-eqb a b)

pub and_iff : (a b : Bool) → ((a && b) ≡ true) ↔ ((a ≡ true) × (b ≡ true))
and_iff true b = (λ h. (refl, h), λ h. h.1)
and_iff false b = (λ h. absurd (true≢false (sym h)), λ h. h.0)

pub ruleset tests = (and_iff, lt_iff, eq_iff)

-- What is given only where a test passes.
pub given : {A : Type 0} (t : Bool) (x y : A) → ◌≡◌ {A = Option A} (cond t (some x) none) (some y) → (t ≡ true) × (x ≡ y)
given true x y e = (refl, cc e)
given false x y e = let z : ◌≡◌ {A = ℕ} 0 1 = cc in absurd (omega arith)

-- A number is below another, or not.
pub compared : (x y : ℕ) {P : Type 0} → (x < y → P) → (y ≤ x → P) → P
compared x y {P} less more = go (ltb x y) refl
  where
    go : (t : Bool) → ltb x y ≡ t → P
    go true e = less (ltb-true x y e)
    go false e = more (ltb-false x y e)

-- What holds of both cases of a test holds of the choice.
pub by_cases : {A : Type 0} (P : A → Type 0) (x y : ℕ) {a b : A} → (x < y → P a) → (y ≤ x → P b) → P (cond (ltb x y) a b)
by_cases P x y less more = compared x y (λ l. rw (lt-ltb x y l) (less l)) (λ g. rw (le-ltb x y g) (more g))

-- A test that is an "or" holds by one of its sides.
pub either : (a b : Bool) {P : Type 0} → (a || b) ≡ true → (a ≡ true → P) → (b ≡ true → P) → P
either true b h l r = l refl
either false b h l r = r h

-- What one turn and the turns that are left take.
pub space : (left each here end : ℕ) → 0 < left → here + left * each ≤ end → (here + each ≤ end) × (here + each + (left - 1) * each ≤ end)
space left each here end h g =
    let more : left ≡ suc (left - 1) = omega arith in
    let product : left * each ≡ (left - 1) * each + each = ap (λ (k : ℕ). k * each) more ∙ suc-mul (left - 1) each in
    omega arith
