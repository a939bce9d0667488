-- `text_bytes` meets its contract: the frame, the digits of the count and the L lines.
-- Assumes nothing.
use mathlib.Core.Path.{◌≡◌, ◌∙◌, ap}
use native.Mathlib.Omega.{arith}
use Rattle.part.specs.Device.{fuse_count, decimal_digits, text_bytes}
use Rattle.part.proofs.known_device.KnownDevice.text_bytes.Goals as goal

pub returns : goal.returns
unfolding text_bytes
returns c =
    let digits : c.decimal_digits-digits.result ≡ decimal_digits (fuse_count c.args.self.device) =
    c.decimal_digits-digits.ensures ∙ ap decimal_digits c.fuse_count.ensures in
    omega (arith, digits, c.in_device-lines.ensures)
