-- Demand 3 holds: of the definitions of setting, reading and the conversions, for every known device, image, setting and value. Each
-- field is proved in a file of its own, and rests on no later one.
use mathlib.Core.Path.{◌≡◌, ◌∙◌}
use mathlib.Core.List.{List}
use Prim.Native.Nat.{ℕ}
use Rattle.part.specs.declared.Device.{Device}
use Rattle.readout.specs.Readout.{readout_of, image_of}
use Rattle.settings.specs.declared.Setting.{Setting}
use Rattle.values.specs.declared.Value.{Value}
use Rattle.setting_bits.specs.declared.Layout.TheVariants.{Image, Readout}
use Rattle.edit.specs.Edit.{with_value}
use Rattle.edit.specs.Demand.{Premise, Calls, calls_by_name, DemandByName, AsDefined}
use Rattle.edit.proofs.NotRefused.{not_refused}
use Rattle.edit.proofs.SameReadout.{same_readout}
use Rattle.edit.proofs.SameImage.{same_image}
use Rattle.edit.proofs.ReadsAsSet.{reads_as_set}
use Rattle.edit.proofs.OthersAsBefore.{others_as_before}
use Rattle.edit.proofs.ListedFuses.{listed_fuses}
use Rattle.edit.proofs.OtherFuses.{other_fuses}
use Rattle.edit.proofs.ConversionsAccepted.{conversions_accepted}

pub holds : (d : Device) (image : List ℕ) (s : Setting) (v : Value) (pattern : ℕ) → Premise d image s v pattern → (t : Setting)
    → DemandByName d image s v pattern t (calls_by_name d image s v t)
holds d image s v pattern taken t = record {
  not_refused = not_refused d image s v pattern taken;
  same_readout = same_readout d image s v pattern taken;
  same_image = same_image d image s v pattern taken;
  reads_as_set = reads_as_set d image s v pattern taken;
  others_as_before = (others_as_before d image s v pattern taken t, others_as_before d image s v pattern taken);
  listed_fuses = listed_fuses d image s v pattern taken;
  other_fuses = other_fuses d image s v pattern taken;
  conversions_accepted = conversions_accepted d image s v pattern taken;
}

-- Calls are equal where all that they gave is.
built : {A : Type 0} {b c : Calls A} → b.converted ≡ c.converted → b.readout_before ≡ c.readout_before → b.set_image ≡ c.set_image
    → b.set_readout ≡ c.set_readout → b.image ≡ c.image → b.readout ≡ c.readout → b.converted_image ≡ c.converted_image
    → b.as_readout ≡ c.as_readout → b.converted_readout ≡ c.converted_readout → b.as_image ≡ c.as_image
    → b.read_image ≡ c.read_image → b.read_readout ≡ c.read_readout → b.other_image_before ≡ c.other_image_before
    → b.other_readout_before ≡ c.other_readout_before → b.other_image ≡ c.other_image → b.other_readout ≡ c.other_readout → b ≡ c
built e0 e1 e2 e3 e4 e5 e6 e7 e8 e9 e10 e11 e12 e13 e14 e15 = λ i. record {
  converted = e0 i;
  readout_before = e1 i;
  set_image = e2 i;
  set_readout = e3 i;
  image = e4 i;
  readout = e5 i;
  converted_image = e6 i;
  as_readout = e7 i;
  converted_readout = e8 i;
  as_image = e9 i;
  read_image = e10 i;
  read_readout = e11 i;
  other_image_before = e12 i;
  other_readout_before = e13 i;
  other_image = e14 i;
  other_readout = e15 i;
}

-- Calls that are those that their names say are what the definitions give.
module _ (d : Device) (image : List ℕ) (s : Setting) (v : Value) (t : Setting) (c : Calls Value) (made : AsDefined d image s v t c) where
  before : c.readout_before ≡ readout_of d image
  before = made.conversion.1

  image_after : c.image ≡ with_value d Image image s v
  image_after = made.changes.0

  readout_after : c.readout ≡ with_value d Readout (readout_of d image) s v
  readout_after = made.changes.1 ∙ rw before

  as_readout : c.as_readout ≡ readout_of d (with_value d Image image s v)
  as_readout = made.image_converted.1 ∙ rw image_after

  as_image : c.as_image ≡ image_of d (with_value d Readout (readout_of d image) s v)
  as_image = made.readout_converted.1 ∙ rw readout_after

  same_calls : c ≡ calls_by_name d image s v t
  same_calls =
      built
      (made.conversion.0 ∙ rw before)
      before
      made.answers.0
      (made.answers.1 ∙ rw before)
      image_after
      readout_after
      (made.image_converted.0 ∙ rw (image_after, as_readout))
      as_readout
      (made.readout_converted.0 ∙ rw (readout_after, as_image))
      as_image
      (made.readings.0 ∙ rw image_after)
      (made.readings.1 ∙ rw readout_after)
      made.others_before.0
      (made.others_before.1 ∙ rw before)
      (made.others_after.0 ∙ rw image_after)
      (made.others_after.1 ∙ rw readout_after)

pub of_calls : (d : Device) (image : List ℕ) (s : Setting) (v : Value) (pattern : ℕ) (t : Setting) (c : Calls Value)
    → Premise d image s v pattern → AsDefined d image s v t c → DemandByName d image s v pattern t c
of_calls d image s v pattern t c taken made = rw (same_calls d image s v t c made) (holds d image s v pattern taken t)
