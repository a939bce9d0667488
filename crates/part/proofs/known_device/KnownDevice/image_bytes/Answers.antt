-- `image_bytes` meets its contract: the fuse count over 8, rounded up.
-- Assumes nothing.
use mathlib.Core.Path.{ap}
use Prim.Native.Nat.{ℕ, ◌+◌, ◌/◌}
use native.Mathlib.Omega.{arith}
use Rattle.part.specs.Device.{image_bytes}
use Rattle.part.proofs.Devices.{fuses_small}
use Rattle.part.proofs.known_device.KnownDevice.image_bytes.Goals as goal

pub overflow_add-result : goal.overflow_add-result
overflow_add-result c = omega (arith, c.fuse_count.ensures, fuses_small c.args.self.device c.args.self.is_known)

pub returns : goal.returns
unfolding image_bytes
returns c = ap (λ (x : ℕ). (x + 7) / 8) c.fuse_count.ensures
