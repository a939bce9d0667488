-- The lowest bits of eight bytes side by side: by one computed test over all of them, and the first few of them.
-- Assumes nothing.
use Rattle.std.proofs.Common.{◌≡◌, ℕ, zero, suc, ◌+◌, ◌*◌, ◌/◌, ◌%◌, ◌^◌, ◌<◌, Bool, true, eqb, List, get_or, drop, replicate, refl, ap, ◌∙◌, mod-lt, suc-add, arith, pow_pos, eqb-true}
use native.Mathlib.Nat.{mod-one}
use lib.Pow.{high, low, mod-pow-add}
use Rattle.cells.specs.Cells.{cut, join}
use Rattle.part.proofs.Tables.{all_below, below_all}

-- The product puts the lowest bits side by side, as all 256 cases show.
abbrev apart : ℕ → ℕ
apart x = join (replicate 8 8) (cut (replicate 8 1) x)

bits_right : ℕ → Bool
bits_right i = eqb ((apart i + apart i / 2 ^ 28) % 2 ^ 32 * 0x01020408 / 2 ^ 24 % 2 ^ 8) i

bits_all : all_below bits_right 256 ≡ true
unfolding bits_right cut join
bits_all = refl

pub together : (x word between r : ℕ) → x < 2 ^ 8 → word ≡ join (replicate 8 8) (cut (replicate 8 1) x)
    → between ≡ (word + word / 2 ^ 28) % 2 ^ 32 → r ≡ between * 0x01020408 / 2 ^ 24 % 2 ^ 8 → r ≡ x
unfolding bits_right
together x word between r h e f g = g ∙ rw (f, e) (eqb-true _ _ (below_all bits_right 256 bits_all x h))

-- The first bits of several are those of the first bytes.
pub bits_low : (k j : ℕ) (bytes : List ℕ) → join (replicate (k + j) 1) bytes % 2 ^ k ≡ join (replicate k 1) bytes
unfolding join
bits_low zero j bytes = mod-one _
bits_low (suc k) j bytes =
    let e : suc k ≡ k + 1 = omega arith in
    let x = join (replicate (k + j) 1) (drop 1 bytes) in
    let small : get_or bytes 0 0 % 2 ^ 1 < 2 ^ 1 = mod-lt (get_or bytes 0 0) (pow_pos 1) in
    rw (
      suc-add k j,
      ap (λ (n : ℕ). (x * 2 ^ 1 + get_or bytes 0 0 % 2 ^ 1) % 2 ^ n) e,
      mod-pow-add (x * 2 ^ 1 + get_or bytes 0 0 % 2 ^ 1) k 1,
      high x 1 small,
      low x 1 small,
      bits_low k j (drop 1 bytes),
    )
