-- `wire_and_indices` meets its contract: the product is the quotient for each block count, and the indices are those at a position.
-- Assumes nothing.
use mathlib.Core.Path.{◌≡◌}
use mathlib.Core.Bool.{true}
use Prim.Native.Nat.{ℕ, ◌+◌, ◌*◌, ◌/◌, ◌%◌, ◌^◌, ◌<◌}
use native.Mathlib.Omega.{arith}
use borrow.Author.Rules.{rules}
use Rattle.part.specs.Device.{known, blocks_of}
use Rattle.part.specs.declared.Device.{Device}
use Rattle.part.proofs.Devices.{by_count, known_count, blocks_small}
use Rattle.settings.specs.Order.{size, in_group}
use Rattle.settings.specs.Order.Group.{wire_ands}
use Rattle.settings.specs.declared.Setting.TheVariants.{WireAnd}
use Rattle.settings.proofs.CodeNumbers.{whole}
use Rattle.settings.proofs.numbers.wire_and_indices.Goals as goal

-- The product that stands for a division by the wire-ANDs of an input.
abbrev Exact : ℕ → ℕ → Type 0
Exact x n = x < n * (36 * (n * (18 * 1))) → (x * (2 ^ 32 / (n * 18) + 1) < 2 ^ 64) × (x * (2 ^ 32 / (n * 18) + 1) / 2 ^ 32 ≡ x / (n * 18))

module _ (d : Device) (x n factor : ℕ) (k : known d ≡ true) (l : x < size d wire_ands) (same : n ≡ blocks_of d)
    (e : factor ≡ 2 ^ 32 / (blocks_of d * 18) + 1) where
  exact : (x * (2 ^ 32 / (blocks_of d * 18) + 1) < 2 ^ 64) × (x * (2 ^ 32 / (blocks_of d * 18) + 1) / 2 ^ 32 ≡ x / (blocks_of d * 18))
  exact =
      by_count (Exact x) (λ h. omega arith) (λ h. omega arith) (λ h. omega arith) (λ h. omega arith) (λ h. omega arith) (λ h. omega arith)
      d.blocks (known_count d k) l

  product_small : x * factor < 2 ^ 64
  product_small = rw e exact.0

  quotient : x * factor / 2 ^ 32 ≡ x / (n * 18)
  quotient = rw (e, same) exact.1

-- What a position is in its block: the input, the source block and the macrocell.
abbrev Divided : ℕ → ℕ → Type 0
Divided x n =
    (x / (n * 18) / 36 ≡ x / (36 * (n * 18)))
    × (x / (n * 18) % 36 ≡ x % (36 * (n * 18)) / (n * 18))
    × (x % (n * 18) ≡ x % (36 * (n * 18)) % (n * 18))

divided_so : (d : Device) (x : ℕ) → known d ≡ true → Divided x (blocks_of d)
divided_so d x k =
    by_count (Divided x) (omega arith) (omega arith) (omega arith) (omega arith) (omega arith) (omega arith) d.blocks (known_count d k)

same_indices : (d : Device) (x n q r : ℕ) → known d ≡ true → n ≡ blocks_of d → q ≡ x / (n * 18) → r ≡ x % (n * 18)
    → WireAnd (q / 36) (q % 36) (r / 18) (r % 18) ≡ in_group d wire_ands x
same_indices d x n q r k same e f = let its = divided_so d x k in rw (whole, e, f, same, its.0, its.1, its.2)

pub overflow_mul-per_input : goal.overflow_mul-per_input
overflow_mul-per_input c = omega (arith, c.blocks-per_input.ensures, blocks_small c.args.d.device c.args.d.is_known)

pub divided-at-requires : goal.divided-at-requires
divided-at-requires c = search (rules, product_small, quotient)

pub returns : goal.returns
returns c = search (rules, same_indices)
