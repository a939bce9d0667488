-- `readout_bytes` meets its contract: the definition's two numbers are the constants'.
-- Assumes nothing.
use Rattle.part.specs.Device.{readout_bytes}
use Rattle.part.proofs.known_device.KnownDevice.readout_bytes.Goals as goal

pub returns : goal.returns
unfolding readout_bytes
returns c = c.in_device.ensures
