-- `in_device` meets its contract: at most 16 blocks, so nothing wraps.
-- Assumes nothing.
use native.Mathlib.Omega.{arith}
use Rattle.part.proofs.Devices.{in_device_small}
use Rattle.part.proofs.known_device.KnownDevice.in_device.Goals as goal

pub overflow_mul-result : goal.overflow_mul-result
overflow_mul-result c =
    rw c.in_block-each.ensures
    (omega (
      arith,
      in_device_small c.args.self.device c.args.main c.args.subarea
          c.args.self.is_known,
    ))
