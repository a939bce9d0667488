-- Demand 3: none of the three conversions is refused.
-- Assumes nothing.
use mathlib.Core.Path.{◌≡◌, sym, ◌∙◌, ap, subst}
use mathlib.Core.Bool.{true}
use mathlib.Core.List.{List}
use Prim.Native.Nat.{ℕ}
use lib.ListN.{length}
use borrow.Author.Tests.{eq-eqb}
use Rattle.part.specs.Outcome.Outcome.{accepted}
use Rattle.part.specs.Device.{known, image_bytes, readout_bytes}
use Rattle.part.specs.declared.Device.{Device}
use Rattle.readout.specs.Readout.{to_readout, readout_of, to_image, image_of}
use Rattle.readout.proofs.Laws.{readout_accepted, accepted_iff, Within}
use Rattle.settings.specs.declared.Setting.{Setting}
use Rattle.values.specs.declared.Value.{Value}
use Rattle.setting_bits.specs.declared.Layout.TheVariants.{Image, Readout}
use Rattle.edit.specs.Edit.{with_value}
use Rattle.edit.specs.Demand.{Premise}
use Rattle.edit.proofs.NotRefused.{its_length}
use Rattle.edit.proofs.SameReadout.{same_readout}
use Rattle.edit.proofs.SameImage.{changed, same_image}

-- The conversion of an image.
pub passes : (d : Device) (image target : List ℕ) → known d ≡ true → length image ≡ image_bytes d → length target ≡ readout_bytes d
    → to_readout d image target ≡ accepted tt
unfolding to_readout
passes d image target k e f = rw (k, eq-eqb (length image) (image_bytes d) e, eq-eqb (length target) (readout_bytes d) f)

-- The conversion of a readout that is an image's.
pub passes_back : (d : Device) (image readout target : List ℕ) → known d ≡ true → readout ≡ readout_of d image
    → length target ≡ image_bytes d
    → to_image d readout target ≡ accepted tt
passes_back d image readout target k same size =
    let clean : Within d readout = subst (Within d) (sym same) (readout_accepted d image) in
    (accepted_iff d readout target).1 (k, ap length same ∙ its_length d image, size, clean)

module _ (d : Device) (image : List ℕ) (s : Setting) (v : Value) (pattern : ℕ) (taken : Premise d image s v pattern) where
  pub conversions_accepted : (to_readout d image (readout_of d image) ≡ accepted tt)
      × (to_readout d (with_value d Image image s v) (readout_of d (with_value d Image image s v)) ≡ accepted tt)
      × (to_image d (with_value d Readout (readout_of d image) s v) (image_of d (with_value d Readout (readout_of d image) s v))
      ≡ accepted tt)
  conversions_accepted =
      let after = changed d image s v pattern taken in (
        passes d image (readout_of d image) taken.device taken.size (its_length d image),
        passes d (with_value d Image image s v) _ taken.device after.size (its_length d _),
        passes_back d (with_value d Image image s v) _ _ taken.device (same_readout d image s v pattern taken)
            (ap length (same_image d image s v pattern taken) ∙ after.size),
      )
