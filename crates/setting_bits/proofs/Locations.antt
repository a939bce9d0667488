-- Bits put one after the other at locations that all differ: each location has its bit, every other bit stands, and reading gives
-- the pattern. Stated for any locations, so once for images and readouts.
use mathlib.Core.Path.{◌≡◌, refl, ◌∙◌}
use mathlib.Core.List.{List}
use Prim.Native.Nat.{ℕ, zero, suc, ◌^◌, ◌<◌, ◌≤◌}
use native.Mathlib.Omega.{arith}
use native.Mathlib.Nat.{mod-eq_of_lt}
use lib.ListN.{length}
use Rattle.part.proofs.Facts.{compared}
use Rattle.image.specs.Bits.{bit_of, bit_at, with_bit, gathered}
use Rattle.image.proofs.Bits.{with_same, with_other, with_length, gathered_same, gathered_own}

-- A bit of a pattern.
pub a_bit : (pattern bit : ℕ) → bit_of pattern bit < 2
a_bit pattern bit = omega arith

module _ (byte bit : ℕ → ℕ) (pattern : ℕ) (bytes : List ℕ) where
  -- The bits below a number, put in place.
  unfoldable pub put : ℕ → List ℕ
  put zero = bytes
  put (suc b) = with_bit (put b) (byte b) (bit b) (bit_of pattern b)

  pub put_length : (w : ℕ) → ((b : ℕ) → b < w → byte b < length bytes) → length (put w) ≡ length bytes
  unfolding put
  put_length zero inside = refl
  put_length (suc w) inside =
      let before = put_length w (λ b h. inside b (omega arith)) in
      with_length (put w) (byte w) (bit w) (bit_of pattern w) (rw before (inside w (omega arith))) (a_bit pattern w) ∙ before

  module _ (w : ℕ) (inside : (b : ℕ) → b < w → byte b < length bytes) where
    -- A bit that is at none of the locations stands.
    pub put_other : (k : ℕ) → k ≤ w → (i j : ℕ) → ((b : ℕ) → b < k → (i ≡ byte b) × (j ≡ bit b) → ⊥) → bit_at (put k) i j ≡ bit_at bytes i j
    unfolding put
    put_other zero h i j apart = refl
    put_other (suc k) h i j apart =
        let same = put_length k (λ b l. inside b (omega arith)) in
        with_other (put k) (byte k) (bit k) (bit_of pattern k) (rw same (inside k h)) (a_bit pattern k) i j (λ e. apart k (omega arith) e)
        ∙ put_other k (omega arith) i j (λ b l. apart b (omega arith))

    -- Each location has its bit, since no later one is the same.
    pub put_same : ((b c : ℕ) → b < w → c < w → byte b ≡ byte c → bit b ≡ bit c → b ≡ c)
        → (k : ℕ) → k ≤ w → (b : ℕ) → b < k → bit_at (put k) (byte b) (bit b) ≡ bit_of pattern b
    unfolding put
    put_same differ zero h b l = absurd (omega arith)
    put_same differ (suc k) h b l =
        let length-now = put_length k (λ b l. inside b (omega arith)) in
        let there : byte k < length (put k) = rw length-now (inside k h) in
        let rest = put_same differ k (omega arith) b in
        compared b k
        (λ less.
        with_other (put k) (byte k) (bit k) (bit_of pattern k) there (a_bit pattern k) (byte b) (bit b)
        (λ e. let same = differ b k (omega arith) h e.0 e.1 in omega arith)
        ∙ rest less)
        (λ more. let same : b ≡ k = omega arith in rw same (with_same (put k) (byte k) (bit k) (bit_of pattern k) there (a_bit pattern k)))

    -- So that reading gives the pattern.
    pub put_read : ((b c : ℕ) → b < w → c < w → byte b ≡ byte c → bit b ≡ bit c → b ≡ c) → pattern < 2 ^ w
        → gathered (λ b. bit_at (put w) (byte b) (bit b)) w ≡ pattern
    put_read differ fits =
        gathered_same (λ b. bit_at (put w) (byte b) (bit b)) (bit_of pattern) w (λ b h. put_same differ w (omega arith) b h)
        ∙ gathered_own pattern w
        ∙ mod-eq_of_lt fits
