-- The known devices: six block counts, one law for what must be shown of each, and the table of sizes.
-- Assumes nothing.
use mathlib.Core.Path.{◌≡◌, refl, sym, ◌∙◌, subst}
use mathlib.Core.Bool.{Bool, true, false, cond, ◌||◌}
use Prim.Native.Nat.{ℕ, ◌+◌, ◌*◌, ◌-◌, ◌/◌, ◌%◌, ◌^◌, ◌≤◌, ◌<◌}
use native.Mathlib.Omega.{arith}
use native.Mathlib.Nat.{mul-le-mul, mul-le-mul_right, div-add-mod', le_of_lt}
use lib.Dec.{eqb, ltb}
use borrow.Author.Tests.{eqb-true}
use Rattle.part.specs.Device.{is_block_count, is_class, known, in_block, in_device, fuse_count, image_bytes, decimal_digits}
use Rattle.part.specs.declared.Device.{Device}
use Rattle.part.proofs.Facts.{and_iff, either, by_cases}

-- What holds of the six counts holds of every block count.
pub by_count : (P : ℕ → Type 0) → P 2 → P 4 → P 6 → P 8 → P 12 → P 16 → (n : ℕ) → is_block_count n ≡ true → P n
by_count P p2 p4 p6 p8 p12 p16 n h =
    either (eqb n 2 || eqb n 4 || eqb n 6 || eqb n 8 || eqb n 12) (eqb n 16) h
    (λ h5. either (eqb n 2 || eqb n 4 || eqb n 6 || eqb n 8) (eqb n 12) h5
    (λ h4. either (eqb n 2 || eqb n 4 || eqb n 6) (eqb n 8) h4
    (λ h3. either (eqb n 2 || eqb n 4) (eqb n 6) h3
    (λ h2. either (eqb n 2) (eqb n 4) h2 (is 2 p2) (is 4 p4))
    (is 6 p6)) (is 8 p8)) (is 12 p12)) (is 16 p16)
  where
    is : (k : ℕ) → P k → eqb n k ≡ true → P n
    is k p e = subst P (sym (eqb-true n k e)) p

pub known_count : (d : Device) → known d ≡ true → is_block_count d.blocks ≡ true
unfolding known
known_count d h = ((and_iff (is_block_count d.blocks) (is_class d.class)).0 h).0

pub blocks_small : (d : Device) → known d ≡ true → d.blocks ≤ 16
blocks_small d h =
    by_count (λ n. n ≤ 16) (omega arith) (omega arith) (omega arith) (omega arith) (omega arith) (omega arith) d.blocks
    (known_count d h)

-- What the code's test says of the device.
pub is_known : (d : Device) (t : Bool) → t ≡ known d → t ≡ true → known d ≡ true
is_known d t e h = sym e ∙ h

pub is_unknown : (d : Device) (t : Bool) → t ≡ known d → t ≡ false → known d ≡ false
is_unknown d t e h = sym e ∙ h

-- What a known device has of so much in each main area and subarea.
pub in_block_small : (d : Device) (main subarea : ℕ) → known d ≡ true → in_block d main subarea ≤ main + 16 * subarea
in_block_small d main subarea h = omega (arith, mul-le-mul_right subarea (blocks_small d h))

pub in_device_small : (d : Device) (main subarea : ℕ) → known d ≡ true
    → in_device d main subarea ≤ 16 * (main + 16 * subarea)
in_device_small d main subarea h = mul-le-mul (blocks_small d h) (in_block_small d main subarea h)

-- The fuses of a known device are at most those of sixteen blocks.
pub fuses_small : (d : Device) → known d ≡ true → fuse_count d ≤ 290304
unfolding fuse_count
fuses_small d h = in_device_small d 7776 648 h

-- The fuses of a known device fill its image bytes.
pub image_whole : (d : Device) → known d ≡ true → fuse_count d ≡ image_bytes d * 8
unfolding fuse_count image_bytes
image_whole d h =
    by_count (λ n. n * (7776 + n * 648) ≡ (n * (7776 + n * 648) + 7) / 8 * 8) refl refl refl refl refl refl d.blocks (known_count d h)

pub digits_small : (x : ℕ) → decimal_digits x ≤ 7
digits_small x =
    small 10 (omega arith) (small 100 (omega arith)
    (small 1000 (omega arith) (small 10000 (omega arith) (small 100000 (omega arith) (small 1000000 (omega arith) (omega arith))))))
  where
    small : (k : ℕ) {a b : ℕ} → a ≤ 7 → b ≤ 7 → cond (ltb x k) a b ≤ 7
    small k p q = by_cases (λ y. y ≤ 7) x k (λ l. p) (λ g. q)

-- The last of the six counts, by exclusion.
pub sixteen_blocks : (d : Device) → known d ≡ true → (d.blocks ≡ 2 → ⊥) → (d.blocks ≡ 4 → ⊥) → (d.blocks ≡ 6 → ⊥) → (d.blocks ≡ 8 → ⊥)
    → (d.blocks ≡ 12 → ⊥) → d.blocks ≡ 16
sixteen_blocks d h a b c e f =
    by_count (λ n. (n ≡ 2 → ⊥) → (n ≡ 4 → ⊥) → (n ≡ 6 → ⊥) → (n ≡ 8 → ⊥) → (n ≡ 12 → ⊥) → n ≡ 16)
    (λ p q r s t. absurd (p refl))
    (λ p q r s t. absurd (q refl))
    (λ p q r s t. absurd (r refl))
    (λ p q r s t. absurd (s refl))
    (λ p q r s t. absurd (t refl))
    (λ p q r s t. refl)
    d.blocks
    (known_count d h)
    a
    b
    c
    e
    f

-- The factor of a block count is that of the device.
pub factor_for : (d : Device) (k r : ℕ) → d.blocks ≡ k → r ≡ 2 ^ 32 / (7776 + k * 648) + 1 → r ≡ 2 ^ 32 / in_block d 7776 648 + 1
factor_for d k r e f = rw e f

-- A fuse's block by a product: the divisors are so few that each is computed. For numbers from the count on the product
-- is no quotient, but it is no block either.
module _ (d : Device) (f r b : ℕ) (h : known d ≡ true) (e : r ≡ 2 ^ 32 / in_block d 7776 648 + 1) where
  factor_small : r < 2 ^ 19
  factor_small =
      rw e (by_count (λ n. 2 ^ 32 / (7776 + n * 648) + 1 < 2 ^ 19) (omega arith) (omega arith) (omega arith) (omega arith) (omega arith)
      (omega arith) d.blocks (known_count d h))

  pub product_small : f < 2 ^ 32 → f * r < 2 ^ 64
  product_small l = omega (arith, mul-le-mul (le_of_lt l) (le_of_lt factor_small))

  pub quotient_small : f < 2 ^ 32 → f * r / 2 ^ 32 < 2 ^ 32
  quotient_small l = omega (arith, product_small l)

  pub block_of : b ≡ f * r / 2 ^ 32 → f < fuse_count d → b ≡ f / in_block d 7776 648
  unfolding fuse_count
  block_of g l =
      g ∙ rw e (by_count (λ n. f < n * (7776 + n * 648) → f * (2 ^ 32 / (7776 + n * 648) + 1) / 2 ^ 32 ≡ f / (7776 + n * 648))
      (λ m. omega arith) (λ m. omega arith) (λ m. omega arith) (λ m. omega arith) (λ m. omega arith) (λ m. omega arith) d.blocks
      (known_count d h) l)

  pub block_below : b ≡ f * r / 2 ^ 32 → b < d.blocks → f < fuse_count d
  unfolding fuse_count
  block_below g l =
      by_count (λ n. f * (2 ^ 32 / (7776 + n * 648) + 1) / 2 ^ 32 < n → f < n * (7776 + n * 648)) (λ m. omega arith) (λ m. omega arith)
      (λ m. omega arith) (λ m. omega arith) (λ m. omega arith) (λ m. omega arith) d.blocks (known_count d h) (rw (← e, ← g) l)

-- What a quotient leaves, as of a fuse in its block.
module _ (f b q : ℕ) (e : b ≡ f / q) where
  pub times_fits : b * q ≤ f
  times_fits = let w : f / q * q + f % q ≡ f = div-add-mod' f q in rw e (omega arith)

  pub times_small : f < 2 ^ 32 → b * q < 2 ^ 32
  times_small l = omega (arith, times_fits)

  pub left_over : f - b * q ≡ f % q
  left_over = let w : f / q * q + f % q ≡ f = div-add-mod' f q in rw e (omega arith)
