-- Demand 3: ".. and every other setting reads as it did before."
-- Assumes nothing.
use mathlib.Core.Path.{◌≡◌, sym, ◌∙◌}
use mathlib.Core.Logic.{◌≢◌}
use mathlib.Core.Bool.{true}
use mathlib.Core.List.{List}
use Prim.Native.Nat.{ℕ}
use native.Mathlib.Omega.{arith}
use lib.ListN.{length}
use borrow.Author.Tests.{eq-eqb, le-ltb}
use Rattle.part.specs.Device.{image_bytes}
use Rattle.part.specs.declared.Device.{Device}
use Rattle.readout.specs.Readout.{readout_of}
use Rattle.settings.specs.Settings.{has_setting}
use Rattle.settings.specs.declared.Setting.{Setting}
use Rattle.values.specs.declared.Value.{Value}
use Rattle.setting_bits.specs.declared.Layout.TheVariants.{Image, Readout}
use Rattle.setting_bits.specs.SettingBits.{pattern_at}
use Rattle.setting_bits.proofs.Edits.{set_others_read}
use Rattle.edit.specs.Edit.{read_in, with_value}
use Rattle.edit.specs.Demand.{Premise}
use Rattle.edit.proofs.NotRefused.{its_pattern}
use Rattle.edit.proofs.SameReadout.{start, same_readout}
use Rattle.edit.proofs.SameImage.{changed}
use Rattle.edit.proofs.ReadsAsSet.{image_clean, same_reading}

module _ (d : Device) (image : List ℕ) (s : Setting) (v : Value) (pattern : ℕ) (taken : Premise d image s v pattern)
    (t : Setting) (h : has_setting d t ≡ true) (ne : t ≢ s) where
  stands : pattern_at d Image (with_value d Image image s v) t ≡ pattern_at d Image image t
  unfolding with_value
  stands =
      rw (its_pattern taken) (set_others_read d taken.device Image _ (start d image s v pattern taken).size s taken.setting _ t h ne)

  in_image : read_in d Image (with_value d Image image s v) t ≡ read_in d Image image t
  unfolding read_in
  in_image =
      let after = with_value d Image image s v in
      rw (
        taken.device,
        eq-eqb (length after) (image_bytes d) (changed d image s v pattern taken).size,
        eq-eqb (length image) (image_bytes d) taken.size,
        h,
        image_clean d after t,
        image_clean d image t,
        le-ltb (image_bytes d) (image_bytes d) (omega arith),
        stands,
      )

  pub others_as_before : (read_in d Image (with_value d Image image s v) t ≡ read_in d Image image t)
      × (read_in d Readout (with_value d Readout (readout_of d image) s v) t ≡ read_in d Readout (readout_of d image) t)
  others_as_before = (
    in_image,
    rw (same_readout d image s v pattern taken)
        (same_reading d _ t taken.device (changed d image s v pattern taken).size h
        ∙ in_image
        ∙ sym (same_reading d image t taken.device taken.size h)),
  )
