-- Demand 3: "Then the changed readout equals, byte for byte, the readout of the changed image, .."
-- Assumes nothing.
use mathlib.Core.Path.{◌≡◌, sym}
use mathlib.Core.List.{List}
use Prim.Native.Nat.{ℕ, ◌^◌, ◌<◌}
use lib.ListN.{length, get_or}
use Rattle.part.specs.Device.{image_bytes}
use Rattle.part.specs.declared.Device.{Device}
use Rattle.readout.specs.Readout.{readout_of}
use Rattle.settings.specs.declared.Setting.{Setting}
use Rattle.values.specs.declared.Value.{Value}
use Rattle.setting_bits.specs.declared.Layout.TheVariants.{Image, Readout}
use Rattle.setting_bits.proofs.Edits.{agrees}
use Rattle.edit.specs.Edit.{with_value}
use Rattle.edit.specs.Demand.{Premise}
use Rattle.edit.proofs.NotRefused.{its_pattern}

-- An image: its length, and its bytes.
pub record IsImage (d : Device) (image : List ℕ) : Type 0 where
  pub size : length image ≡ image_bytes d
  pub bytes : (i : ℕ) → get_or image i 0 < 2 ^ 8

module _ (d : Device) (image : List ℕ) (s : Setting) (v : Value) (pattern : ℕ) (taken : Premise d image s v pattern) where
  -- The image whose bits setting changes.
  pub start : IsImage d image
  start = record { size = taken.size; bytes = taken.bytes }

  pub same_readout : with_value d Readout (readout_of d image) s v ≡ readout_of d (with_value d Image image s v)
  unfolding with_value
  same_readout = rw (its_pattern taken) (sym (agrees d taken.device _ start.size s taken.setting _))
