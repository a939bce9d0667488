-- `zero_count` meets its contract: the tests of `DeviceImage::new`, and the fuses less the ones.
-- Assumes nothing.
use Rattle.std.proofs.Common.{◌≡◌, ℕ, ◌+◌, ◌-◌, ◌*◌, ◌≤◌, true, List, length, sym, ap, ◌∙◌, arith, w32, Fits, rules}
use Rattle.part.specs.Outcome.Outcome.{accepted}
use Rattle.part.specs.Device.{known, fuse_count, image_bytes}
use Rattle.part.specs.declared.Device.{Device}
use Rattle.part.proofs.Devices.{image_whole, fuses_small}
use Rattle.image.specs.Bits.{ones_in}
use Rattle.image.specs.Image.{zero_count, zeros_below}
use Rattle.image.proofs.Checked.{refused_on, accepted_on}
use Rattle.image.proofs.Counts.{ones_in_le, zeros_and_ones}
use Rattle.image.proofs.zero_count.Goals as goal

-- An image of its device's length, and the image that was asked for.
module _ (p : Device) (bytes : List ℕ) (k : known p ≡ true) (l : length bytes ≡ image_bytes p) where
  size : fuse_count p ≡ length bytes * 8
  size = omega (arith, image_whole p k, l)

  short : length bytes ≤ 65536
  short = omega (arith, size, fuses_small p k)

  module _ (ones : ℕ) (o : ones ≡ ones_in bytes) where
    few : Fits w32 ones
    few = omega (arith, ones_in_le bytes, short)

    module _ (fuses : ℕ) (f : fuses ≡ fuse_count p) where
      within : ones ≤ fuses
      within = omega (arith, size, ones_in_le bytes)

      counted : (d : Device) (image : List ℕ) → p ≡ d → bytes ≡ image → accepted (fuses - ones) ≡ zero_count d image
      unfolding zero_count
      counted d image same all =
          let both : zeros_below bytes (fuse_count p) + ones_in bytes ≡ fuse_count p = rw (sym size) at (zeros_and_ones bytes) in
          let here : fuses - ones ≡ zeros_below bytes (fuse_count p) = omega arith in
          let zeros : fuses - ones ≡ zeros_below image (fuse_count d) = rw (same, all) at here in
          ap accepted zeros ∙ accepted_on p d bytes image k l same all _

pub returns-in_err-whole : goal.returns-in_err-whole
unfolding zero_count
returns-in_err-whole c = search (rules, refused_on)

pub ones_of-requires : goal.ones_of-requires
ones_of-requires c = search (rules, short)

pub overflow_cast-zeros : goal.overflow_cast-zeros
overflow_cast-zeros c = search (rules, few)

pub overflow_sub-zeros : goal.overflow_sub-zeros
overflow_sub-zeros c = search (rules, within)

pub returns : goal.returns
returns c = search (rules, counted)
