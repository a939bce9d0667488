-- `states_of` meets its contract: a shift and the lowest bits.
-- Assumes nothing.
use Rattle.std.proofs.Common.{◌≡◌, ap, ℕ, ◌*◌, ◌/◌, ◌%◌, ◌^◌, ◌<◌, get_or, arith, mod-eq_of_lt}
use native.Mathlib.Nat.{one-mul}
use lib.Pow.{pow-lt}
use Rattle.image.proofs.bytes.states_of.Goals as goal

power : (width : ℕ) → width < 32 → 1 * 2 ^ width % 2 ^ 32 ≡ 2 ^ width
power width h = rw (one-mul (2 ^ width)) (mod-eq_of_lt (pow-lt h))

pub returns : goal.returns
returns g c =
    ap (λ (n : ℕ). get_or c.args.bytes.now c.args.index 0 / 2 ^ c.args.bit % n) (power g.row.WIDTH (omega (arith, c.requires.2)))
