-- `low_bits` meets its contract: a mask of ones is a remainder by a power of two.
-- Assumes nothing.
use mathlib.Core.Path.{◌≡◌}
use Prim.Native.Nat.{ℕ, ◌*◌, ◌%◌, ◌^◌, ◌<◌}
use native.Mathlib.Nat.{mod-eq_of_lt, one-mul}
use lib.Bits.{and_mask}
use lib.Pow.{pow-lt}
use Rattle.cells.proofs.words.low_bits.Goals as goal

power : (k : ℕ) → k < 64 → (1 * 2 ^ k) % 2 ^ 64 ≡ 2 ^ k
power k h = rw (one-mul (2 ^ k)) (mod-eq_of_lt (pow-lt h))

pub returns : goal.returns
returns c = rw (power c.args.width c.requires) (and_mask c.args.x c.args.width)
