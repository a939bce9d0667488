-- Demand 3: "In the changed image and in the changed readout the setting reads as that value, .."
-- Assumes nothing.
use mathlib.Core.Path.{◌≡◌, refl, ◌∙◌}
use mathlib.Core.Bool.{true}
use mathlib.Core.List.{List}
use Prim.Native.Nat.{ℕ}
use native.Mathlib.Omega.{arith}
use lib.ListN.{length}
use borrow.Author.Tests.{eq-eqb, le-ltb}
use Rattle.part.specs.Outcome.Outcome.{accepted}
use Rattle.part.specs.Device.{known, image_bytes, readout_bytes}
use Rattle.part.specs.declared.Device.{Device}
use Rattle.readout.specs.Readout.{readout_of}
use Rattle.settings.specs.Settings.{has_setting}
use Rattle.settings.specs.declared.Setting.{Setting}
use Rattle.setting_places.specs.Places.{bits_of}
use Rattle.values.specs.declared.Value.{Value}
use Rattle.setting_values.specs.Kinds.{value_of}
use Rattle.setting_bits.specs.declared.Layout.{Layout}
use Rattle.setting_bits.specs.declared.Layout.TheVariants.{Image, Readout}
use Rattle.setting_bits.specs.SettingBits.{bytes_of, pattern_at, above_among}
use Rattle.setting_bits.proofs.Edits.{set_reads, same_pattern}
use Rattle.edit.specs.Edit.{above_in, read_in, with_value}
use Rattle.edit.specs.Demand.{Premise}
use Rattle.edit.proofs.NotRefused.{Clean, its_pattern, its_length, its_bits}
use Rattle.edit.proofs.SameReadout.{start, same_readout}
use Rattle.edit.proofs.SameImage.{changed}

pub image_clean : (d : Device) (bytes : List ℕ) (t : Setting) → Clean d Image bytes t
unfolding above_in
image_clean d bytes t = refl

pub readout_clean : (d : Device) (bytes : List ℕ) (t : Setting) → above_among d bytes t (bits_of t) ≡ readout_bytes d
    → Clean d Readout bytes t
unfolding above_in
readout_clean d bytes t e = e

-- reading answers the value of the pattern that stands there, where the device, the length and the setting are right and no byte of the
-- setting has a bit above its width.
pub reads : (d : Device) (layout : Layout) (bytes : List ℕ) (t : Setting) (pattern : ℕ) (v : Value) → known d ≡ true
    → length bytes ≡ bytes_of d layout
    → has_setting d t ≡ true → Clean d layout bytes t → pattern_at d layout bytes t ≡ pattern → value_of d t pattern ≡ v
    → read_in d layout bytes t ≡ accepted v
unfolding read_in
reads d layout bytes t pattern v k e h clean p means =
    rw (k, eq-eqb (length bytes) (bytes_of d layout) e, h, clean, le-ltb (bytes_of d layout) (bytes_of d layout) (omega arith), p, means)

-- So the same is read in an image and in its readout.
pub same_reading : (d : Device) (image : List ℕ) (t : Setting) → known d ≡ true → length image ≡ image_bytes d → has_setting d t ≡ true
    → read_in d Readout (readout_of d image) t ≡ read_in d Image image t
unfolding read_in
same_reading d image t k e h =
    rw (
      k,
      eq-eqb (length image) (image_bytes d) e,
      eq-eqb (length (readout_of d image)) (readout_bytes d) (its_length d image),
      h,
      image_clean d image t,
      readout_clean d (readout_of d image) t (its_bits d image t k h),
      le-ltb (image_bytes d) (image_bytes d) (omega arith),
      le-ltb (readout_bytes d) (readout_bytes d) (omega arith),
      same_pattern d image k t h,
    )

module _ (d : Device) (image : List ℕ) (s : Setting) (v : Value) (pattern : ℕ) (taken : Premise d image s v pattern) where
  stands : pattern_at d Image (with_value d Image image s v) s ≡ pattern
  unfolding with_value
  stands =
      rw (its_pattern taken)
      (set_reads d taken.device Image _ (start d image s v pattern taken).size s taken.setting _ taken.fits)

  in_image : read_in d Image (with_value d Image image s v) s ≡ accepted v
  in_image =
      reads d Image (with_value d Image image s v) s _ v taken.device (changed d image s v pattern taken).size taken.setting
      (image_clean d _ _) stands taken.value

  pub reads_as_set : (read_in d Image (with_value d Image image s v) s ≡ accepted v)
      × (read_in d Readout (with_value d Readout (readout_of d image) s v) s ≡ accepted v)
  reads_as_set = (
    in_image,
    rw (same_readout d image s v pattern taken)
        (same_reading d _ s taken.device (changed d image s v pattern taken).size taken.setting ∙ in_image),
  )
