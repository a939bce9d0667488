-- `fuse_sum` meets its contract: the tests of `DeviceImage::new`, and the sum.
-- Assumes nothing.
use Rattle.std.proofs.Common.{◌≡◌, ℕ, true, List, length, rules, ap, ◌∙◌}
use Rattle.part.specs.Outcome.Outcome.{accepted}
use Rattle.part.specs.Device.{known, image_bytes}
use Rattle.part.specs.declared.Device.{Device}
use Rattle.image.specs.Image.{fuse_sum, sum16}
use Rattle.image.proofs.Checked.{refused_on, accepted_on}
use Rattle.image.proofs.fuse_sum.Goals as goal

pub returns-in_err-whole : goal.returns-in_err-whole
unfolding fuse_sum
returns-in_err-whole c = search (rules, refused_on)

summed : (p d : Device) (bytes image : List ℕ) (x : ℕ) → known p ≡ true → length bytes ≡ image_bytes p → p ≡ d → bytes ≡ image
    → x ≡ sum16 bytes → accepted x ≡ fuse_sum d image
unfolding fuse_sum
summed p d bytes image x k l same all e = ap accepted (rw all at e) ∙ accepted_on p d bytes image k l same all _

pub returns : goal.returns
returns c = search (rules, summed)
