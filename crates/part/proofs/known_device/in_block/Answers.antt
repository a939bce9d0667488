-- `in_block` meets its contract: a known device has at most 16 blocks, so nothing wraps.
-- Assumes nothing.
use native.Mathlib.Omega.{arith}
use native.Mathlib.Nat.{mul-le-mul_right}
use Rattle.part.proofs.Devices.{blocks_small}
use Rattle.part.proofs.known_device.in_block.Goals as goal

pub overflow_mul-result : goal.overflow_mul-result
overflow_mul-result c =
    omega (arith, mul-le-mul_right c.args.subarea (blocks_small c.args.d.device c.args.d.is_known))

pub overflow_add-result : goal.overflow_add-result
overflow_add-result c =
    omega (arith, mul-le-mul_right c.args.subarea (blocks_small c.args.d.device c.args.d.is_known))
