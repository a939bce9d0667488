-- What `both_ways` ensures: each answer and each slice is what its definition gives (`StepByStep`), and under demand
-- 3's premise, for slices of the right lengths, demand 3 holds of them (`AsDefined`, `DemandByName` of `edit`).
use Rattle.std.specs.Prelude.{◌≡◌, cond, List, ℕ, Result, eqb, length}
use Rattle.part.specs.Device.{image_bytes, readout_bytes}
use Rattle.part.specs.declared.Device.{Device}
use Rattle.part.specs.declared.Refusal.{Refusal}
use Rattle.part.specs.Answer.{done_outcome}
use Rattle.part.specs.Outcome.{written, Written}
use Rattle.readout.specs.Readout.{to_readout, readout_of, to_image, image_of}
use Rattle.settings.specs.declared.Setting.{Setting}
use Rattle.values.specs.declared.Value.{Value}
use Rattle.setting_values.specs.Operations.{value_outcome}
use Rattle.setting_bits.specs.declared.Layout.TheVariants.{Image, Readout}
use Rattle.edit.specs.Edit.{read_in, set_in, with_value}
use Rattle.edit.specs.Demand.{Premise, Calls, DemandByName, AsDefined}
use Rattle.demand.specs.declared.Both.{Both}
use Rattle.demand.specs.declared.BeforeAnswer.{BeforeAnswer}
use Rattle.demand.specs.declared.BothAnswer.{BothAnswer}

-- What the steps of `both_ways` give. A setting is read in an image and in a readout.
pub record ReadInBoth (d : Device) (image readout : List ℕ) (s : Setting)
    (r : Both (Result Value Refusal)) : Type 0 where
  pub in_image : value_outcome r.image ≡ read_in d Image image s
  pub in_readout : value_outcome r.readout ≡ read_in d Readout readout s

-- Bytes are copied to a slice of the same length; one of another length stands.
abbrev pub copied : (bytes kept : List ℕ) → List ℕ
copied bytes kept = cond (eqb (length kept) (length bytes)) bytes kept

-- An image is converted, the readout is so copied, and a setting is read in both.
pub record Begun (d : Device) (image readout readout' kept kept' : List ℕ) (t : Setting)
    (r : BeforeAnswer) : Type 0 where
  pub converted : Written (to_readout d image readout) (done_outcome r.converted) (readout_of d image) readout readout'
  pub keeps : kept' ≡ copied readout' kept
  pub read : ReadInBoth d image readout' t r.other

-- A setting is set in both.
pub record SetInBoth (d : Device) (image image' readout readout' : List ℕ) (s : Setting) (v : Value)
    (r : Both (Result (Unit {0}) Refusal)) : Type 0 where
  pub in_image : Written (set_in d Image image s v) (done_outcome r.image) (with_value d Image image s v) image image'
  pub in_readout : Written (set_in d Readout readout s v) (done_outcome r.readout)
      (with_value d Readout readout s v) readout readout'

-- Both are converted.
pub record BothConverted (d : Device) (image readout as_readout as-readout' as_image as-image' : List ℕ)
    (r : Both (Result (Unit {0}) Refusal)) : Type 0 where
  pub of_image : Written (to_readout d image as_readout) (done_outcome r.image)
      (readout_of d image) as_readout as-readout'
  pub of_readout : Written (to_image d readout as_image) (done_outcome r.readout)
      (image_of d readout) as_image as-image'

-- The calls of `both_ways`: what they answered, and what its five slices then held.
abbrev pub calls_of : BothAnswer → (image readout kept as_readout as_image : List ℕ) → Calls Value
calls_of r image readout kept as_readout as_image = record {
  converted = done_outcome r.before.converted;
  readout_before = kept;
  set_image = done_outcome r.set.image;
  set_readout = done_outcome r.set.readout;
  image = image;
  readout = readout;
  converted_image = done_outcome r.converted.image;
  as_readout = as_readout;
  converted_readout = done_outcome r.converted.readout;
  as_image = as_image;
  read_image = value_outcome r.read.image;
  read_readout = value_outcome r.read.readout;
  other_image_before = value_outcome r.before.other.image;
  other_readout_before = value_outcome r.before.other.readout;
  other_image = value_outcome r.other.image;
  other_readout = value_outcome r.other.readout;
}

-- These steps one after the other, whatever is refused.
pub record StepByStep (d : Device) (image readout kept as_readout as_image : List ℕ) (s : Setting) (v : Value)
    (t : Setting) (r : BothAnswer)
    (image' readout' kept' as-readout' as-image' : List ℕ) : Type 0 where
  pub begun : Begun d image readout
      (written (to_readout d image readout) (readout_of d image) readout) kept kept' t r.before
  pub set : SetInBoth d image image'
      (written (to_readout d image readout) (readout_of d image) readout) readout' s v r.set
  pub converted : BothConverted d image' readout' as_readout as-readout' as_image as-image' r.converted
  pub read : ReadInBoth d image' readout' s r.read
  pub other : ReadInBoth d image' readout' t r.other

-- Its four other slices have the lengths of a readout, a readout, a readout and an image.
pub record RightLengths (d : Device) (readout kept as_readout as_image : List ℕ) : Type 0 where
  pub readout_size : length readout ≡ readout_bytes d
  pub kept_size : length kept ≡ readout_bytes d
  pub as_readout_size : length as_readout ≡ readout_bytes d
  pub as_image_size : length as_image ≡ image_bytes d

abbrev pub BothWays : Device → (image readout kept as_readout as_image : List ℕ) → Setting → Value
    → (t : Setting) → BothAnswer → (image' readout' kept' as-readout' as-image' : List ℕ) → Type 0
BothWays d image readout kept as_readout as_image s v t r image' readout' kept' as-readout' as-image' =
    StepByStep d image readout kept as_readout as_image s v t r image' readout' kept' as-readout' as-image'
    × ((pattern : ℕ) → Premise d image s v pattern → RightLengths d readout kept as_readout as_image
    → AsDefined d image s v t (calls_of r image' readout' kept' as-readout' as-image')
    × DemandByName d image s v pattern t (calls_of r image' readout' kept' as-readout' as-image'))
