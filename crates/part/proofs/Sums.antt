-- Sums over the numbers below a bound: taken apart at a number, and over q * m + r by q and r.
-- Assumes nothing.
use mathlib.Core.Path.{◌≡◌, refl, ◌∙◌, ap, ap₂}
use Prim.Native.Nat.{ℕ, zero, suc, ◌+◌, ◌*◌, ◌<◌}
use native.Mathlib.Omega.{arith}
use native.Mathlib.Nat.{add_assoc, add-zero, zero-add, add-suc, suc-mul}

unfoldable pub sum : (ℕ → ℕ) → ℕ → ℕ
sum f zero = 0
sum f (suc n) = sum f n + f n

pub sum_same : (f g : ℕ → ℕ) (n : ℕ) → ((i : ℕ) → i < n → f i ≡ g i) → sum f n ≡ sum g n
unfolding sum
sum_same f g zero e = refl
sum_same f g (suc n) e = ap₂ ◌+◌ (sum_same f g n (λ i h. e i (omega arith))) (e n (omega arith))

-- What is the same at each number.
pub sum_all : (f : ℕ → ℕ) (c n : ℕ) → ((i : ℕ) → i < n → f i ≡ c) → sum f n ≡ n * c
unfolding sum
sum_all f c zero e = omega arith
sum_all f c (suc n) e = rw (sum_all f c n (λ i h. e i (omega arith)), e n (omega arith)) (omega (arith, suc-mul n c))

pub sum_add : (f : ℕ → ℕ) (n m : ℕ) → sum f (n + m) ≡ sum f n + sum (λ i. f (n + i)) m
unfolding sum
sum_add f n zero = rw (add-zero n, add-zero (sum f n))
sum_add f n (suc m) = rw add-suc (ap (λ (x : ℕ). x + f (n + m)) (sum_add f n m) ∙ add_assoc _ _ _)

pub sum_first : (f : ℕ → ℕ) (n : ℕ) → sum f (1 + n) ≡ f 0 + sum (λ i. f (1 + i)) n
unfolding sum
sum_first f n = sum_add f 1 n ∙ ap (λ (x : ℕ). x + sum (λ i. f (1 + i)) n) (zero-add (f 0))

pub sum_times : (f : ℕ → ℕ) (n m : ℕ) → sum f (n * m) ≡ sum (λ q. sum (λ r. f (q * m + r)) m) n
unfolding sum
sum_times f zero m = let none : 0 * m ≡ 0 = omega arith in rw none
sum_times f (suc n) m =
    rw suc-mul (sum_add f (n * m) m ∙ ap (λ (x : ℕ). x + sum (λ r. f (n * m + r)) m) (sum_times f n m))
