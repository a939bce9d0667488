-- Demand 3: ".. and turned into an image it equals the changed image."
-- Assumes nothing.
use mathlib.Core.Path.{◌≡◌, ◌∙◌, ap}
use mathlib.Core.List.{List}
use Prim.Native.Nat.{ℕ}
use Rattle.part.specs.declared.Device.{Device}
use Rattle.readout.specs.Readout.{readout_of, image_of}
use Rattle.readout.proofs.Laws.{image_inverse}
use Rattle.settings.specs.declared.Setting.{Setting}
use Rattle.values.specs.declared.Value.{Value}
use Rattle.setting_bits.specs.declared.Layout.TheVariants.{Image, Readout}
use Rattle.setting_bits.proofs.Edits.{set_length, set_small}
use Rattle.edit.specs.Edit.{with_value}
use Rattle.edit.specs.Demand.{Premise}
use Rattle.edit.proofs.NotRefused.{its_pattern}
use Rattle.edit.proofs.SameReadout.{IsImage, start, same_readout}

module _ (d : Device) (image : List ℕ) (s : Setting) (v : Value) (pattern : ℕ) (taken : Premise d image s v pattern) where
  -- The changed image is an image.
  pub changed : IsImage d (with_value d Image image s v)
  unfolding with_value
  changed =
      let from = start d image s v pattern taken in
      rw (its_pattern taken)
      (record {
        size = set_length d taken.device Image _ from.size s taken.setting _ ∙ from.size;
        bytes = λ i. set_small d taken.device _ from.size s taken.setting _ i (from.bytes i);
      })

  pub same_image : image_of d (with_value d Readout (readout_of d image) s v) ≡ with_value d Image image s v
  same_image =
      ap (image_of d) (same_readout d image s v pattern taken)
      ∙ image_inverse d (with_value d Image image s v) taken.device changed.size changed.bytes
