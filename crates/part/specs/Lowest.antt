-- The lowest number that passes a test: refusals 6 and 13 return one.
-- Assumes nothing.
use Rattle.std.specs.Prelude.{◌≡◌, Bool, true, false, cond, ℕ, zero, suc, ◌+◌, ◌≤◌, ◌<◌}

-- The lowest of so many numbers from a number on that passes a test, or the number after them.
unfoldable pub lowest_from : (ℕ → Bool) → (from count : ℕ) → ℕ
lowest_from test from zero = from
lowest_from test from (suc count) = cond (test from) from (lowest_from test (from + 1) count)

-- The lowest number below n that passes a test, or n.
abbrev pub lowest : (ℕ → Bool) → (n : ℕ) → ℕ
lowest test n = lowest_from test 0 n

-- The same in plain terms: no lower number passes, and it passes itself unless it is n.
pub record IsLowest (test : ℕ → Bool) (n k : ℕ) : Type 0 where
  pub at_most : k ≤ n
  pub lower_fail : (i : ℕ) → i < k → test i ≡ false
  pub passes : k < n → test k ≡ true
