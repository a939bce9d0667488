-- Neighbouring bits of a byte, put in place at once, and two of them read at once.
-- Assumes nothing.
use Rattle.std.proofs.Common.{refl, ap, subst, ◌-◌, ◌≤◌, mod-eq_of_lt, shl_exact, w8, Fits, ◌≡◌, ℕ, ◌+◌, ◌*◌, ◌/◌, ◌%◌, ◌^◌, ◌<◌, List, length, get_or, set, sym, ◌∙◌, mod-lt, mul_assoc, mul_comm, add-mul, arith, get_or-set_same, set-set, pow_pos, pow-add, shr-shr}
use lib.Pow.{mod-pow-add, high, low, pow-lt, split, shr_lt}
use native.Mathlib.Nat.{one-mul, div-add-mod'}
use Rattle.image.specs.Bits.{bit_of, put_bit, put_bits, with_bit}
use lib.Arith.{digits_lt}

-- The bit above another is the lowest of what is left without that one.
pub next_bit : (x b : ℕ) → x / 2 ^ (b + 1) ≡ x / 2 ^ b / 2
next_bit x b = sym (shr-shr x b 1)

pub pair_bits : (x b : ℕ) → x / 2 ^ b % 4 ≡ bit_of x b + 2 * bit_of x (b + 1)
pair_bits x b = rw (next_bit x b) (omega arith)

shared : (a s p r : ℕ) → a * (p * 2) + (s * p + r) ≡ (a * 2 + s) * p + r
shared a s p r = rw (add-mul (a * 2) s p, mul_assoc a 2 p, mul_comm 2 p) (omega arith)

module _ (x b states : ℕ) (two : states < 4) where
  first : ℕ
  first = put_bit x b (states % 2)

  parts : (first / 2 ^ b ≡ x / 2 ^ b / 2 * 2 + states % 2) × (first % 2 ^ b ≡ x % 2 ^ b)
  unfolding first put_bit
  parts = (high (x / 2 ^ b / 2 * 2 + states % 2) b (mod-lt x (pow_pos b)), low (x / 2 ^ b / 2 * 2 + states % 2) b (mod-lt x (pow_pos b)))

  above : first / 2 ^ (b + 1) / 2 * 2 + states / 2 ≡ x / 2 ^ b / 4 * 2 + states / 2
  above = rw (next_bit first b, parts.0) (omega arith)

  below : first % 2 ^ (b + 1) ≡ states % 2 * 2 ^ b + x % 2 ^ b
  below =
      let e : b + 1 ≡ 1 + b = omega arith in
      let lowest : (x / 2 ^ b / 2 * 2 + states % 2) % 2 ≡ states % 2 = omega arith in
      rw (e, mod-pow-add first 1 b, parts.0, parts.1, lowest)

  pub put_pair_lem : put_bit (put_bit x b (states % 2)) (b + 1) (states / 2) ≡ put_bits x b 2 states
  unfolding first put_bit put_bits
  put_pair_lem =
      let whole : (x / 2 ^ b / 4 * 2 + states / 2) * 2 + states % 2 ≡ x / 2 ^ b / 4 * 4 + states = omega arith in
      rw (above, below, pow-add 2 b 1) (shared (x / 2 ^ b / 4 * 2 + states / 2) (states % 2) (2 ^ b) (x % 2 ^ b) ∙ rw whole)

-- A list with two neighbouring bits of one byte put in place.
pub with_pair : (bytes : List ℕ) (index b states : ℕ) → index < length bytes → states < 4
    → with_bit (with_bit bytes index b (states % 2)) index (b + 1) (states / 2)
    ≡ set bytes index (put_bits (get_or bytes index 0) b 2 states)
unfolding with_bit
with_pair bytes index b states there two =
    rw (
      get_or-set_same bytes index (put_bit (get_or bytes index 0) b (states % 2)) 0 there,
      set-set,
      put_pair_lem (get_or bytes index 0) b states two,
    )

-- A byte with some neighbouring bits put in place, as the code does it: their old states taken off, and the new ones put on.
module _ (x bit width states : ℕ) (inside : bit + width ≤ 8) (less : width < 8) (few : states < 2 ^ width) where
  one : 1 * 2 ^ width % 2 ^ 8 ≡ 2 ^ width
  one = rw (one-mul (2 ^ width)) (mod-eq_of_lt (pow-lt less))

  old : ℕ
  old = x / 2 ^ bit % 2 ^ width

  -- The number is what stands above the bits, the bits, and what stands below them.
  whole : x / 2 ^ bit / 2 ^ width * 2 ^ width * 2 ^ bit + old * 2 ^ bit + x % 2 ^ bit ≡ x
  unfolding old
  whole =
      rw (← add-mul (x / 2 ^ bit / 2 ^ width * 2 ^ width) (x / 2 ^ bit % 2 ^ width) (2 ^ bit), div-add-mod' (x / 2 ^ bit) (2 ^ width))
      (split x bit)

  exact : (s : ℕ) → s < 2 ^ width → s * 2 ^ bit % 2 ^ 8 ≡ s * 2 ^ bit
  exact s h = shl_exact width bit 8 h (omega arith)

  made : ℕ
  made = x - x / 2 ^ bit % (1 * 2 ^ width % 2 ^ 8) * 2 ^ bit % 2 ^ 8 + states * 2 ^ bit % 2 ^ 8

  made_bits : made ≡ put_bits x bit width states
  unfolding made old put_bits
  made_bits =
      let off : old * 2 ^ bit % 2 ^ 8 ≡ old * 2 ^ bit = exact old (mod-lt (x / 2 ^ bit) (pow_pos width)) in
      rw (one, off, exact states few, add-mul (x / 2 ^ bit / 2 ^ width * 2 ^ width) states (2 ^ bit)) (omega (arith, whole))

  -- A byte stays a byte.
  pub bits_small : x < 2 ^ 8 → put_bits x bit width states < 2 ^ 8
  unfolding put_bits
  bits_small h =
      let m = 8 - bit - width in
      let e : 8 ≡ m + width + bit = omega arith in
      let above : x / 2 ^ bit < 2 ^ (m + width) = shr_lt (m + width) bit (subst (λ (j : ℕ). x < 2 ^ j) e h) in
      let changed : x / 2 ^ bit / 2 ^ width * 2 ^ width + states < 2 ^ m * 2 ^ width = digits_lt (shr_lt m width above) few in
      let changed' : x / 2 ^ bit / 2 ^ width * 2 ^ width + states < 2 ^ (m + width) = rw (pow-add 2 m width) changed in
      subst (λ (j : ℕ). (x / 2 ^ bit / 2 ^ width * 2 ^ width + states) * 2 ^ bit + x % 2 ^ bit < 2 ^ j) (sym e)
      (rw (pow-add 2 (m + width) bit) (digits_lt changed' (mod-lt x (pow_pos bit))))

  pub made_fits : Fits w8 x → Fits w8 (x - x / 2 ^ bit % (1 * 2 ^ width % 2 ^ 8) * 2 ^ bit % 2 ^ 8 + states * 2 ^ bit % 2 ^ 8)
  unfolding made
  made_fits h = record { fits = rw made_bits (bits_small h.fits) }

  pub made_in : (bytes : List ℕ) (index : ℕ) → x ≡ get_or bytes index 0
      → set bytes index (x - x / 2 ^ bit % (1 * 2 ^ width % 2 ^ 8) * 2 ^ bit % 2 ^ 8 + states * 2 ^ bit % 2 ^ 8)
      ≡ set bytes index (put_bits (get_or bytes index 0) bit width states)
  unfolding made
  made_in bytes index e = ap (set bytes index) made_bits ∙ ap (λ (y : ℕ). set bytes index (put_bits y bit width states)) e

-- One bit put in place.
pub with_one : (bytes : List ℕ) (index b state : ℕ)
    → with_bit bytes index b state ≡ set bytes index (put_bits (get_or bytes index 0) b 1 state)
unfolding with_bit put_bit put_bits
with_one bytes index b state = refl
