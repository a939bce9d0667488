-- `fuse_count` meets its contract: the definition's two numbers are the constants'.
-- Assumes nothing.
use Rattle.part.specs.Device.{fuse_count}
use Rattle.part.proofs.known_device.KnownDevice.fuse_count.Goals as goal

pub returns : goal.returns
unfolding fuse_count
returns c = c.in_device.ensures
