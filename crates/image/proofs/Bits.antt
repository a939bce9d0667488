-- Laws of bits:
--   put_same, put_other, put_small         a number with one bit put in place
--   with_same, with_other, with_length     a list with one bit of one byte put in place
--   gathered_bit, gathered-above, gathered_small   a number gathered from bits has those bits and no other
--   gathered_own                           a number is gathered from its own bits
--   tabulate_length, tabulate_at           a list by index
use Rattle.std.proofs.Common.{◌≡◌, ℕ, zero, suc, ◌+◌, ◌-◌, ◌*◌, ◌/◌, ◌%◌, ◌^◌, ◌<◌, ◌≤◌, ◌≢◌, List, [], ◌∷◌, length, get_or, set, sym, refl, ap, ◌∙◌, subst, ap₂, lt_of_lt_of_le, not-suc-le-zero, mod-lt, mod-eq_of_lt, add_comm, add-one, one-add, arith, length-append, length-set, get_or-set_other, get_or-set_same, pow_pos, pow_mono, pow-add, shr-shr, shr_lt}
use native.Mathlib.Nat.{div-eq_of_lt, mod-one}
use native.Mathlib.Decide.{ℕ_discrete}
use lib.Pow.{high, low, mod-pow-add, mod-mod-pow, field}
use lib.Arith.{digits_lt}
use lib.ListN.{get_or-append}
use lib.Seq.{get_or_at}
use Rattle.part.proofs.Facts.{compared}
use Rattle.image.specs.Bits.{bit_of, bit_at, put_bit, with_bit, gathered, tabulate}

-- A bit below the width is a bit of the low part.
pub bit_low : (n w b : ℕ) → b < w → bit_of (n % 2 ^ w) b ≡ bit_of n b
bit_low n w b h =
    let e : w ≡ w - suc b + suc b = omega arith in
    let f : suc b ≡ 1 + b = omega arith in
    let inner : n % 2 ^ w % 2 ^ (1 + b) ≡ n % 2 ^ (1 + b) = ap (λ (k : ℕ). n % 2 ^ k % 2 ^ (1 + b)) e
    ∙ ap (λ (k : ℕ). n % 2 ^ (w - suc b + suc b) % 2 ^ k) (sym f) ∙ mod-mod-pow n (w - suc b) (suc b) ∙ ap (λ (k : ℕ). n % 2 ^ k) f in
    sym (field (n % 2 ^ w) 1 b) ∙ ap (λ (x : ℕ). x / 2 ^ b) inner ∙ field n 1 b

-- A bit at or above the width is a bit of the high part.
pub bit_high : (n w k : ℕ) → bit_of n (w + k) ≡ bit_of (n / 2 ^ w) k
bit_high n w k = ap (λ (x : ℕ). x % 2) (sym (shr-shr n w k))

-- A number has no bit at or above its width.
pub bit_above : (n w b : ℕ) → n < 2 ^ w → w ≤ b → bit_of n b ≡ 0
bit_above n w b h g = ap (λ (x : ℕ). x % 2) (div-eq_of_lt (lt_of_lt_of_le h (pow_mono g)))

module _ (x b s : ℕ) (bit : s < 2) where
  put_split : (put_bit x b s / 2 ^ b ≡ x / 2 ^ b / 2 * 2 + s) × (put_bit x b s % 2 ^ b ≡ x % 2 ^ b)
  unfolding put_bit
  put_split = (high (x / 2 ^ b / 2 * 2 + s) b (mod-lt x (pow_pos b)), low (x / 2 ^ b / 2 * 2 + s) b (mod-lt x (pow_pos b)))

  pub put_same : bit_of (put_bit x b s) b ≡ s
  put_same = rw put_split.0 (omega arith)

  pub put_other : (j : ℕ) → j ≢ b → bit_of (put_bit x b s) j ≡ bit_of x j
  put_other j ne =
      compared j b
      (λ less. sym (bit_low (put_bit x b s) b j less) ∙ rw put_split.1 (bit_low x b j less))
      (λ more.
      let e : j ≡ b + (1 + (j - b - 1)) = omega arith in
      let halves : (x / 2 ^ b / 2 * 2 + s) / 2 ≡ x / 2 ^ b / 2 = omega arith in
      rw e
      (bit_high (put_bit x b s) b (1 + (j - b - 1)) ∙ rw put_split.0 (bit_high (x / 2 ^ b / 2 * 2 + s) 1 (j - b - 1)
      ∙ rw halves (sym (bit_high (x / 2 ^ b) 1 (j - b - 1)) ∙ sym (bit_high x b (1 + (j - b - 1)))))))

  pub put_small : (k : ℕ) → x < 2 ^ k → b < k → put_bit x b s < 2 ^ k
  unfolding put_bit
  put_small k h hb =
      let m = k - b - 1 in
      let e : k ≡ m + 1 + b = omega arith in
      let above : x / 2 ^ b < 2 ^ (m + 1) = shr_lt (m + 1) b (subst (λ (j : ℕ). x < 2 ^ j) e h) in
      let half : x / 2 ^ b / 2 < 2 ^ m = shr_lt m 1 above in
      let changed : x / 2 ^ b / 2 * 2 + s < 2 ^ m * 2 = digits_lt half bit in
      let changed' : x / 2 ^ b / 2 * 2 + s < 2 ^ (m + 1) = rw (pow-add 2 m 1) changed in
      subst (λ (j : ℕ). (x / 2 ^ b / 2 * 2 + s) * 2 ^ b + x % 2 ^ b < 2 ^ j) (sym e)
      (rw (pow-add 2 (m + 1) b) (digits_lt changed' (mod-lt x (pow_pos b))))

module _ (bytes : List ℕ) (index b s : ℕ) (there : index < length bytes) (bit : s < 2) where
  pub with_same : bit_at (with_bit bytes index b s) index b ≡ s
  unfolding bit_at with_bit
  with_same = rw (get_or-set_same bytes index (put_bit (get_or bytes index 0) b s) 0 there) (put_same (get_or bytes index 0) b s bit)

  -- Every other bit of every byte stands as before.
  pub with_other : (i j : ℕ) → ((i ≡ index) × (j ≡ b) → ⊥) → bit_at (with_bit bytes index b s) i j ≡ bit_at bytes i j
  unfolding bit_at with_bit
  with_other i j ne = same_or (ℕ_discrete i index)
    where
      same_or : Dec (i ≡ index) → bit_of (get_or (set bytes index (put_bit (get_or bytes index 0) b s)) i 0) j ≡ bit_of (get_or bytes i 0) j
      same_or (yes e) =
          rw (e, get_or-set_same bytes index (put_bit (get_or bytes index 0) b s) 0 there)
          (put_other (get_or bytes index 0) b s bit j (λ f. ne (e, f)))
      same_or (no n) = rw (get_or-set_other bytes index i (put_bit (get_or bytes index 0) b s) 0 n)

  pub with_length : length (with_bit bytes index b s) ≡ length bytes
  unfolding with_bit
  with_length = length-set bytes index _

-- The number gathered from bits.
module _ (bits : ℕ → ℕ) (small : (i : ℕ) → bits i < 2) where
  pub gathered_small : (w : ℕ) → gathered bits w < 2 ^ w
  unfolding gathered
  gathered_small zero = omega arith
  gathered_small (suc w) =
      let e : gathered bits w + bits w * 2 ^ w ≡ bits w * 2 ^ w + gathered bits w = add_comm _ _ in
      rw (e, ← one-add w, pow-add 2 1 w) (digits_lt (small w) (gathered_small w))

  pub gathered_bit : (w b : ℕ) → b < w → bit_of (gathered bits w) b ≡ bits b
  unfolding gathered
  gathered_bit zero b h = absurd (not-suc-le-zero h)
  gathered_bit (suc w) b h =
      let e : gathered bits w + bits w * 2 ^ w ≡ bits w * 2 ^ w + gathered bits w = add_comm _ _ in
      rw e
      (compared b w
      (λ less. sym (bit_low (bits w * 2 ^ w + gathered bits w) w b less) ∙ rw (low (bits w) w (gathered_small w)) (gathered_bit w b less))
      (λ more.
      let f : b ≡ w = omega arith in
      rw (f, high (bits w) w (gathered_small w)) (mod-eq_of_lt (small w))))

-- Only the bits below the width are read.
pub gathered_same : (f g : ℕ → ℕ) (w : ℕ) → ((b : ℕ) → b < w → f b ≡ g b) → gathered f w ≡ gathered g w
unfolding gathered
gathered_same f g zero e = refl
gathered_same f g (suc w) e =
    ap₂ (λ (x y : ℕ). x + y * 2 ^ w) (gathered_same f g w (λ b h. e b (omega arith))) (e w (omega arith))

-- A number is gathered from its own bits.
pub gathered_own : (x w : ℕ) → gathered (bit_of x) w ≡ x % 2 ^ w
unfolding gathered
gathered_own x zero = sym (mod-one x)
gathered_own x (suc w) =
    rw (← one-add w, mod-pow-add x 1 w, gathered_own x w) (add_comm _ _)

pub tabulate_length : (n : ℕ) (f : ℕ → ℕ) → length (tabulate n f) ≡ n
unfolding tabulate
tabulate_length zero f = refl
tabulate_length (suc n) f = length-append (tabulate n f) (f n ∷ []) ∙ rw (tabulate_length n f) (add-one n)

pub tabulate_at : (n : ℕ) (f : ℕ → ℕ) (i : ℕ) → i < n → get_or (tabulate n f) i 0 ≡ f i
unfolding tabulate
tabulate_at zero f i h = absurd (not-suc-le-zero h)
tabulate_at (suc n) f i h =
    compared i n
    (λ less. get_or-append (tabulate n f) (f n ∷ []) 0 i (rw (tabulate_length n f) less) ∙ tabulate_at n f i less)
    (λ more.
    let e : i ≡ n = omega arith in
    rw e (get_or_at (tabulate n f) (f n) [] 0 n (tabulate_length n f)))
