-- `usercode_location` meets its contract: the row, the column and bit 6 of a pair are those of its lower bit.
-- Assumes nothing.
use mathlib.Core.Path.{◌≡◌, refl, sym, ◌∙◌}
use mathlib.Core.Bool.{Bool, true, false, true≢false}
use Prim.Native.Nat.{ℕ, ◌+◌, ◌*◌, ◌/◌, ◌%◌, ◌<◌}
use Rattle.part.specs.Device.{known}
use Rattle.part.specs.declared.Device.{Device}
use Rattle.setting_places.specs.Places.{fuse_of}
use Rattle.setting_bits.specs.declared.Layout.{Layout}
use Rattle.setting_bits.specs.declared.Layout.TheVariants.{Image, Readout}
use Rattle.setting_bits.specs.SettingBits.{is_readout, byte_of, bit_in}
use Rattle.setting_bits.proofs.Usercode.{usercode, row_of, column_of, in_readout, in_image}
use borrow.Author.Rules.{rules}
use Rattle.setting_bits.proofs.in_bytes.usercode_location.Goals as goal

-- What the test of the layout says.
a_readout : (layout : Layout) (t : Bool) → t ≡ is_readout layout → t ≡ true → layout ≡ Readout
a_readout Image t e h = absurd (true≢false (sym h ∙ e))
a_readout Readout t e h = refl

an_image : (layout : Layout) (t : Bool) → t ≡ is_readout layout → t ≡ false → layout ≡ Image
an_image Image t e h = refl
an_image Readout t e h = absurd (true≢false (sym e ∙ h))

module _ (d : Device) (layout : Layout) (pair : ℕ) (k : known d ≡ true) (l : pair < 16) where
  readout_byte : layout ≡ Readout → row_of pair * 15 + column_of pair ≡ byte_of d layout (fuse_of d usercode (2 * pair))
  readout_byte f = rw f (in_readout d k pair l).0

  readout_bit : layout ≡ Readout → 6 ≡ bit_in d layout (fuse_of d usercode (2 * pair))
  readout_bit f = rw f (in_readout d k pair l).1

  image_byte : layout ≡ Image → (row_of pair * 108 + column_of pair * 8 + 6) / 8 ≡ byte_of d layout (fuse_of d usercode (2 * pair))
  image_byte f = rw (f, in_image d k pair l)

  image_bit : layout ≡ Image → (row_of pair * 108 + column_of pair * 8 + 6) % 8 ≡ bit_in d layout (fuse_of d usercode (2 * pair))
  image_bit f = rw (f, in_image d k pair l)

pub returns-then-is_readout : goal.returns-then-is_readout
returns-then-is_readout c = (search (rules, readout_byte, a_readout), search (rules, readout_bit, a_readout))

pub returns : goal.returns
returns c = (search (rules, image_byte, an_image), search (rules, image_bit, an_image))
