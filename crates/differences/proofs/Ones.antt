-- The ones of a word as fuses: the first of them is at the trailing zeros, the others are those of the word without it; the ones of the
-- exclusive-or of two words are the fuses that differ. Assumes nothing.
use mathlib.Core.Path.{◌≡◌, refl, sym, ◌∙◌, ap, ap₂, subst}
use mathlib.Core.List.{List, [], ◌∷◌}
use Prim.Native.Nat.{ℕ, zero, suc, ◌+◌, ◌*◌, ◌-◌, ◌/◌, ◌%◌, ◌^◌, ◌≤◌, ◌<◌}
use native.Mathlib.Omega.{arith}
use native.Mathlib.Nat.{mod-lt, add-zero, div-one}
use native.Mathlib.Numerals.{add-one}
use lib.Bits.{bit_and, bit_xor, differ, and_step, and_self, xor_step}
use lib.Count.{ones, ones_step, count_trailing_zeros}
use lib.Dec.{eqb}
use lib.ListN.{length}
use lib.Pow.{shr_lt, shr-shr}
use Rattle.image.specs.Image.{state}
use Rattle.differences.specs.Differences.{differing}
use Rattle.differences.specs.Scan.{ones_from, AllBelow}

-- A number is even or odd.
parity : (x : ℕ) {P : Type 0} → (x % 2 ≡ 0 → P) → (x % 2 ≡ 1 → P) → P
parity x {P} even odd = go (x % 2) refl (mod-lt x (omega arith))
  where
    go : (r : ℕ) → x % 2 ≡ r → r < 2 → P
    go zero e h = even e
    go (suc zero) e h = odd e
    go (suc (suc r)) e h = absurd (omega arith)

-- The ones of an even number, and of an odd one.
even_ones : (from x count : ℕ) → x % 2 ≡ 0 → ones_from from x (suc count) ≡ ones_from (from + 1) (x / 2) count
unfolding ones_from
even_ones from x count e = rw e

odd_ones : (from x count : ℕ) → x % 2 ≡ 1 → ones_from from x (suc count) ≡ from ∷ ones_from (from + 1) (x / 2) count
unfolding ones_from
odd_ones from x count e = rw e

pub no_ones : (from count : ℕ) → ones_from from 0 count ≡ []
unfolding ones_from
no_ones from zero = refl
no_ones from (suc count) = no_ones (from + 1) count

-- The word without its lowest one, halved.
even_without : (x : ℕ) → 0 < x → x % 2 ≡ 0 → bit_and x (x - 1) ≡ bit_and (x / 2) (x / 2 - 1) * 2
even_without x p e =
    let half : (x - 1) / 2 ≡ x / 2 - 1 = omega arith in
    and_step x (x - 1) ∙ rw (half, e) (omega arith)

odd_without : (x : ℕ) → x % 2 ≡ 1 → bit_and x (x - 1) ≡ x / 2 * 2
odd_without x o =
    let half : (x - 1) / 2 ≡ x / 2 = omega arith in
    let low : (x - 1) % 2 ≡ 0 = omega arith in
    and_step x (x - 1) ∙ rw (half, low, o, and_self (x / 2)) (omega arith)

doubled_ones : (from y count : ℕ) → ones_from from (y * 2) (suc count) ≡ ones_from (from + 1) y count
doubled_ones from y count =
    let half : y * 2 / 2 ≡ y = omega arith in
    even_ones from (y * 2) count (omega arith) ∙ ap (λ (z : ℕ). ones_from (from + 1) z count) half

-- The trailing zeros of an even number, and of an odd one.
zero_after : (count from x : ℕ) → x % 2 ≡ 0 → from + 1 + count_trailing_zeros count (x / 2) ≡ from + count_trailing_zeros (suc count) x
unfolding count_trailing_zeros
zero_after count from x e = rw e (omega arith)

no_zero : (count from x : ℕ) → x % 2 ≡ 1 → from ≡ from + count_trailing_zeros (suc count) x
unfolding count_trailing_zeros
no_zero count from x e = rw e (sym (add-zero from))

pub first_one : (count from x : ℕ) → 0 < x → x < 2 ^ count
    → ones_from from x count ≡ (from + count_trailing_zeros count x) ∷ ones_from from (bit_and x (x - 1)) count
first_one zero from x p h = absurd (omega (arith, h))
first_one (suc count) from x p h =
    parity x
    (λ even.
    let positive : 0 < x / 2 = omega arith in
    let small : x / 2 < 2 ^ count = shr_lt count 1 (subst (λ (m : ℕ). x < 2 ^ m) (sym (add-one count)) h) in
    even_ones from x count even ∙ first_one count (from + 1) (x / 2) positive small
    ∙ ap₂ ◌∷◌ (zero_after count from x even) (sym (doubled_ones from (bit_and (x / 2) (x / 2 - 1)) count))
    ∙ ap (λ (y : ℕ). (from + count_trailing_zeros (suc count) x) ∷ ones_from from y (suc count)) (sym (even_without x p even)))
    (λ odd.
    odd_ones from x count odd
    ∙ ap₂ ◌∷◌ (no_zero count from x odd) (sym (doubled_ones from (x / 2) count))
    ∙ ap (λ (y : ℕ). (from + count_trailing_zeros (suc count) x) ∷ ones_from from y (suc count)) (sym (odd_without x odd)))

-- How many ones there are.
pub ones_count : (count from x : ℕ) → x < 2 ^ count → length (ones_from from x count) ≡ ones x
unfolding ones_from ones
ones_count zero from x h = let none : x ≡ 0 = omega (arith, h) in rw none
ones_count (suc count) from x h =
    let small : x / 2 < 2 ^ count = shr_lt count 1 (subst (λ (m : ℕ). x < 2 ^ m) (sym (add-one count)) h) in
    let rest : length (ones_from (from + 1) (x / 2) count) ≡ ones (x / 2) = ones_count count (from + 1) (x / 2) small in
    parity x
    (λ even. ap length (even_ones from x count even) ∙ rest ∙ sym (ones_step x ∙ rw even (omega arith)))
    (λ odd. ap length (odd_ones from x count odd) ∙ ap suc rest ∙ sym (ones_step x ∙ rw odd (omega arith)))

-- The exclusive-or of two bits, and of two words.
bits_differ : (a b : ℕ) → a < 2 → b < 2 → eqb (differ a b) 0 ≡ eqb a b
bits_differ zero zero h g = refl
bits_differ zero (suc zero) h g = refl
bits_differ (suc zero) zero h g = refl
bits_differ (suc zero) (suc zero) h g = refl
bits_differ (suc (suc a)) b h g = absurd (omega arith)
bits_differ zero (suc (suc b)) h g = absurd (omega arith)
bits_differ (suc zero) (suc (suc b)) h g = absurd (omega arith)

differ_small : (a b : ℕ) → a < 2 → b < 2 → differ a b < 2
differ_small zero zero h g = omega arith
differ_small zero (suc zero) h g = omega arith
differ_small (suc zero) zero h g = omega arith
differ_small (suc zero) (suc zero) h g = omega arith
differ_small (suc (suc a)) b h g = absurd (omega arith)
differ_small zero (suc (suc b)) h g = absurd (omega arith)
differ_small (suc zero) (suc (suc b)) h g = absurd (omega arith)

module _ (a b : ℕ) where
  xor_parts : (bit_xor a b % 2 ≡ differ (a % 2) (b % 2)) × (bit_xor a b / 2 ≡ bit_xor (a / 2) (b / 2))
  xor_parts =
      let small = differ_small (a % 2) (b % 2) (omega arith) (omega arith) in
      let step = xor_step a b in
      (omega (arith, step, small), omega (arith, step, small))

-- A word has the states of an image from a fuse on: its lowest bit is the first, and the rest has the others.
abbrev Has : (image : List ℕ) → (from x count : ℕ) → Type 0
Has image from x count = (j : ℕ) → j < count → x / 2 ^ j % 2 ≡ state image (from + j)

has_first : (image : List ℕ) (from x count : ℕ) → Has image from x (suc count) → x % 2 ≡ state image from
has_first image from x count h =
    ap (λ (y : ℕ). y % 2) (sym (div-one x)) ∙ h 0 (omega arith) ∙ ap (state image) (add-zero from)

has_rest : (image : List ℕ) (from x count : ℕ) → Has image from x (suc count) → Has image (from + 1) (x / 2) count
has_rest image from x count h j l =
    let e : from + (1 + j) ≡ from + 1 + j = omega arith in
    ap (λ (y : ℕ). y % 2) (shr-shr x 1 j) ∙ h (1 + j) (omega arith) ∙ ap (state image) e

pub xor_ones : (count from : ℕ) (old new : List ℕ) (a b : ℕ) → Has old from a count → Has new from b count
    → differing old new from count ≡ ones_from from (bit_xor a b) count
unfolding differing ones_from
xor_ones zero from old new a b h g = refl
xor_ones (suc count) from old new a b h g =
    let rest = xor_ones count (from + 1) old new (a / 2) (b / 2) (has_rest old from a count h) (has_rest new from b count g) in
    let test : eqb (bit_xor a b % 2) 0 ≡ eqb (state old from) (state new from) =
    ap (λ (y : ℕ). eqb y 0) (xor_parts a b).0 ∙ bits_differ (a % 2) (b % 2) (omega arith) (omega arith)
    ∙ ap₂ eqb (has_first old from a count h) (has_first new from b count g) in
    rw (test, (xor_parts a b).1, rest)

-- At most as many ones as bits, and each of them among the fuses of the bits.
pub ones_most : (count from x : ℕ) → length (ones_from from x count) ≤ count
unfolding ones_from
ones_most zero from x = omega arith
ones_most (suc count) from x =
    parity x (λ even. rw even (omega (arith, ones_most count (from + 1) (x / 2))))
    (λ odd. rw odd (omega (arith, ones_most count (from + 1) (x / 2))))

all_more : (n m : ℕ) (l : List ℕ) → n ≤ m → AllBelow n l → AllBelow m l
all_more n m [] h a = tt
all_more n m (x ∷ l) h a = (omega (arith, a.0), all_more n m l h a.1)

pub ones_below : (count from x : ℕ) → AllBelow (from + count) (ones_from from x count)
unfolding ones_from
ones_below zero from x = tt
ones_below (suc count) from x =
    let rest : AllBelow (from + suc count) (ones_from (from + 1) (x / 2) count) =
    all_more (from + 1 + count) (from + suc count) (ones_from (from + 1) (x / 2) count) (omega arith) (ones_below count (from + 1) (x / 2))
    in
    parity x (λ even. rw even rest) (λ odd. rw odd (omega arith, rest))
