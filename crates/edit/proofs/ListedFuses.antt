-- Demand 3: "Each fuse listed for the setting stands as the value needs it."
-- Assumes nothing.
use mathlib.Core.Path.{◌≡◌, ◌∙◌}
use mathlib.Core.List.{List}
use Prim.Native.Nat.{ℕ, ◌<◌}
use Rattle.part.specs.declared.Device.{Device}
use Rattle.image.specs.Bits.{bit_of}
use Rattle.readout.specs.Readout.{readout_of}
use Rattle.settings.specs.declared.Setting.{Setting}
use Rattle.setting_places.specs.Places.{bits_of, fuse_of}
use Rattle.values.specs.declared.Value.{Value}
use Rattle.setting_bits.specs.declared.Layout.TheVariants.{Image, Readout}
use Rattle.setting_bits.specs.SettingBits.{state_of}
use Rattle.setting_bits.proofs.Edits.{fuse_below, set_fuses, same_state}
use Rattle.edit.specs.Edit.{with_value}
use Rattle.edit.specs.Demand.{Premise}
use Rattle.edit.proofs.NotRefused.{its_pattern}
use Rattle.edit.proofs.SameReadout.{start, same_readout}

module _ (d : Device) (image : List ℕ) (s : Setting) (v : Value) (pattern : ℕ) (taken : Premise d image s v pattern) (b : ℕ)
    (l : b < bits_of s) where
  in_image : state_of d Image (with_value d Image image s v) (fuse_of d s b) ≡ bit_of pattern b
  unfolding with_value
  in_image = rw (its_pattern taken) (set_fuses d taken.device Image _ (start d image s v pattern taken).size s taken.setting _ b l)

  pub listed_fuses : (state_of d Image (with_value d Image image s v) (fuse_of d s b) ≡ bit_of pattern b)
      × (state_of d Readout (with_value d Readout (readout_of d image) s v) (fuse_of d s b) ≡ bit_of pattern b)
  listed_fuses = (
    in_image,
    rw (same_readout d image s v pattern taken)
        (same_state d _ (fuse_of d s b) (fuse_below d taken.device s taken.setting b l) ∙ in_image),
  )
