-- The arms of a number `match` that take `first` and the numbers after it: a number that has none of them is past them all.
-- Assumes nothing.
use mathlib.Core.Path.{◌≡◌}
use Prim.Native.Nat.{ℕ, zero, suc, ◌+◌, ◌≤◌}
use native.Mathlib.Omega.{arith}

-- No one of so many arms is x's.
abbrev pub NoArm : (first x n : ℕ) → Type 0
NoArm first x zero = Unit {0}
NoArm first x (suc n) = NoArm first x n × (x ≡ first + n → ⊥)

pub past : (first x n : ℕ) → first ≤ x → NoArm first x n → first + n ≤ x
past first x zero low none = omega arith
past first x (suc n) low none =
    let before = past first x n low none.0 in
    let other : x ≡ first + n → ⊥ = none.1 in
    omega arith
