-- A rule of a table, proved at all of its entries by one test that antt computes.
-- Assumes nothing.
use mathlib.Core.Path.{◌≡◌}
use mathlib.Core.Bool.{Bool, true, ◌&&◌}
use Prim.Native.Nat.{ℕ, zero, suc, ◌<◌}
use native.Mathlib.Omega.{arith}
use Rattle.part.proofs.Facts.{and_iff, compared}

-- A test passes for every number below n.
abbrev pub all_below : (ℕ → Bool) → ℕ → Bool
all_below test zero = true
all_below test (suc n) = test n && all_below test n

pub below_all : (test : ℕ → Bool) (n : ℕ) → all_below test n ≡ true → (i : ℕ) → i < n → test i ≡ true
below_all test zero h i l = absurd (omega arith)
below_all test (suc n) h i l =
    let both = (and_iff (test n) (all_below test n)).0 h in
    compared i n (λ less. below_all test n both.1 i less) (λ more. let same : i ≡ n = omega arith in rw same both.0)

-- The same for what is not a test: a proof for every number below n.
abbrev pub Each : (ℕ → Type 0) → ℕ → Type 0
Each Q zero = Unit {0}
Each Q (suc n) = Q n × Each Q n

pub each_below : (Q : ℕ → Type 0) (n : ℕ) → Each Q n → (i : ℕ) → i < n → Q i
each_below Q zero all i l = absurd (omega arith)
each_below Q (suc n) all i l =
    compared i n (λ less. each_below Q n all.1 i less) (λ more. let same : i ≡ n = omega arith in rw same all.0)
