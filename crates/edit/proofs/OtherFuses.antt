-- Demand 3: "Every other fuse of the part, named or not, stands as before."
-- Assumes nothing.
use mathlib.Core.Path.{◌≡◌, sym, ◌∙◌}
use mathlib.Core.Logic.{◌≢◌}
use mathlib.Core.List.{List}
use Prim.Native.Nat.{ℕ, ◌<◌}
use Rattle.part.specs.Device.{fuse_count}
use Rattle.part.specs.declared.Device.{Device}
use Rattle.readout.specs.Readout.{readout_of}
use Rattle.settings.specs.declared.Setting.{Setting}
use Rattle.setting_places.specs.Places.{bits_of, fuse_of}
use Rattle.values.specs.declared.Value.{Value}
use Rattle.setting_bits.specs.declared.Layout.TheVariants.{Image, Readout}
use Rattle.setting_bits.specs.SettingBits.{state_of}
use Rattle.setting_bits.proofs.Edits.{set_other_fuses, same_state}
use Rattle.edit.specs.Edit.{with_value}
use Rattle.edit.specs.Demand.{Premise}
use Rattle.edit.proofs.NotRefused.{its_pattern}
use Rattle.edit.proofs.SameReadout.{start, same_readout}

module _ (d : Device) (image : List ℕ) (s : Setting) (v : Value) (pattern : ℕ) (taken : Premise d image s v pattern)
    (f : ℕ) (l : f < fuse_count d) (apart : (b : ℕ) → b < bits_of s → fuse_of d s b ≢ f) where
  in_image : state_of d Image (with_value d Image image s v) f ≡ state_of d Image image f
  unfolding with_value
  in_image =
      rw (its_pattern taken)
      (set_other_fuses d taken.device Image _ (start d image s v pattern taken).size s taken.setting _ f l apart)

  pub other_fuses : (state_of d Image (with_value d Image image s v) f ≡ state_of d Image image f)
      × (state_of d Readout (with_value d Readout (readout_of d image) s v) f ≡ state_of d Readout (readout_of d image) f)
  other_fuses = (
    in_image,
    rw (same_readout d image s v pattern taken) (same_state d _ f l ∙ in_image ∙ sym (same_state d image f l)),
  )
