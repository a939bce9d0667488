-- Demand 3, whole, in its own words: a field for each of its sentences, in their order, over document 01's places and
-- values and the conversions; it speaks of the definitions that the contracts of the operations cite, and of calls.
use Rattle.std.specs.Prelude.{◌≡◌, ◌≢◌, true, List, ℕ, ◌^◌, ◌<◌, length, get_or}
use Rattle.part.specs.Outcome.{Outcome}
use Rattle.part.specs.Outcome.Outcome.{accepted}
use Rattle.part.specs.Device.{known, fuse_count, image_bytes}
use Rattle.part.specs.declared.Device.{Device}
use Rattle.image.specs.Bits.{bit_of}
use Rattle.readout.specs.Readout.{to_readout, readout_of, to_image, image_of}
use Rattle.settings.specs.Settings.{has_setting}
use Rattle.settings.specs.declared.Setting.{Setting}
use Rattle.setting_places.specs.Places.{bits_of, fuse_of}
use Rattle.values.specs.declared.Value.{Value}
use Rattle.setting_values.specs.Kinds.{value_of}
use Rattle.setting_bits.specs.declared.Layout.{Layout}
use Rattle.setting_bits.specs.declared.Layout.TheVariants.{Image, Readout}
use Rattle.setting_bits.specs.SettingBits.{state_of}
use Rattle.edit.specs.Edit.{read_in, set_in, with_value}

-- "take any known device, any image of it, the readout of that image, any setting of that device and any value of
-- that setting": what 003's list for the setting gives a pattern of its bits; by `value_iff` (proofs/Laws.antt)
-- no other pattern has this value.
pub record Premise (d : Device) (image : List ℕ) (s : Setting) (v : Value) (pattern : ℕ) : Type 0 where
  pub device : known d ≡ true
  pub size : length image ≡ image_bytes d
  pub bytes : (i : ℕ) → get_or image i 0 < 2 ^ 8
  pub setting : has_setting d s ≡ true
  pub fits : pattern < 2 ^ bits_of s
  pub value : value_of d s pattern ≡ v

-- What the calls gave: the answer of the conversion of the image and the readout that it made; the answers of setting
-- in the image and in the readout, and the bytes after that; the answers of the conversions of the changed image and of
-- the changed readout, and their results; the answers of reading the setting in both, and of reading another setting in
-- both before and after the change.
pub record Calls (A : Type 0) : Type 0 where
  pub converted : Outcome (Unit {0})
  pub readout_before : List ℕ
  pub set_image : Outcome (Unit {0})
  pub set_readout : Outcome (Unit {0})
  pub image : List ℕ
  pub readout : List ℕ
  pub converted_image : Outcome (Unit {0})
  pub as_readout : List ℕ
  pub converted_readout : Outcome (Unit {0})
  pub as_image : List ℕ
  pub read_image : Outcome A
  pub read_readout : Outcome A
  pub other_image_before : Outcome A
  pub other_readout_before : Outcome A
  pub other_image : Outcome A
  pub other_readout : Outcome A

-- What the definitions give where setting answers `set` and leaves `changed`, and a setting that is called `s` is read
-- by `read`. The answer of a conversion depends on its target by the length alone, which is that of its result.
abbrev pub calls_by : {S A : Type 0} → Device → (set : Layout → List ℕ → Outcome (Unit {0}))
    → (changed : Layout → List ℕ → List ℕ)
    → (read : Layout → List ℕ → S → Outcome A) → (image : List ℕ) → (s t : S) → Calls A
calls_by d set changed read image s t = record {
  converted = to_readout d image (readout_of d image);
  readout_before = readout_of d image;
  set_image = set Image image;
  set_readout = set Readout (readout_of d image);
  image = changed Image image;
  readout = changed Readout (readout_of d image);
  converted_image = to_readout d (changed Image image) (readout_of d (changed Image image));
  as_readout = readout_of d (changed Image image);
  converted_readout =
      to_image d (changed Readout (readout_of d image)) (image_of d (changed Readout (readout_of d image)));
  as_image = image_of d (changed Readout (readout_of d image));
  read_image = read Image (changed Image image) s;
  read_readout = read Readout (changed Readout (readout_of d image)) s;
  other_image_before = read Image image t;
  other_readout_before = read Readout (readout_of d image) t;
  other_image = read Image (changed Image image) t;
  other_readout = read Readout (changed Readout (readout_of d image)) t;
}

-- Demand 3, of given calls. A setting is called `s`: by its name and indices, or by its number; `has` says which of
-- these the device has, `read` reads one, `v` is what it is set to, `pattern` the states that `v` needs, and `fuse b`
-- for b below `bits` are the fuses listed for it. `t` is the other setting that the calls read.
pub record Demand3 {S A : Type 0} (d : Device) (has : S → Type 0)
    (read : Layout → List ℕ → S → Outcome A) (image : List ℕ)
    (s : S) (v : A) (pattern bits : ℕ) (fuse : ℕ → ℕ) (t : S) (c : Calls A) : Type 0 where
  -- "Set it in the image, or set it straight in the readout's few bytes. Neither is refused."
  pub not_refused : (c.set_image ≡ accepted tt) × (c.set_readout ≡ accepted tt)
  -- "Then the changed readout equals, byte for byte, the readout of the changed image, .."
  pub same_readout : c.readout ≡ c.as_readout
  -- ".. and turned into an image it equals the changed image."
  pub same_image : c.as_image ≡ c.image
  -- "In the changed image and in the changed readout the setting reads as that value, .."
  pub reads_as_set : (c.read_image ≡ accepted v) × (c.read_readout ≡ accepted v)
  -- ".. and every other setting reads as it did before.": the one that the calls read, and every one
  pub others_as_before : (has t → t ≢ s
      → (c.other_image ≡ c.other_image_before) × (c.other_readout ≡ c.other_readout_before))
      × ((u : S) → has u → u ≢ s
      → (read Image c.image u ≡ read Image image u)
      × (read Readout c.readout u ≡ read Readout c.readout_before u))
  -- "Each fuse listed for the setting stands as the value needs it."
  pub listed_fuses : (b : ℕ) → b < bits
      → (state_of d Image c.image (fuse b) ≡ bit_of pattern b)
      × (state_of d Readout c.readout (fuse b) ≡ bit_of pattern b)
  -- "Every other fuse of the part, named or not, stands as before."
  pub other_fuses : (f : ℕ) → f < fuse_count d → ((b : ℕ) → b < bits → fuse b ≢ f)
      → (state_of d Image c.image f ≡ state_of d Image image f)
      × (state_of d Readout c.readout f ≡ state_of d Readout c.readout_before f)
  -- None of the three conversions was refused.
  pub conversions_accepted :
      (c.converted ≡ accepted tt) × (c.converted_image ≡ accepted tt) × (c.converted_readout ≡ accepted tt)

-- The operations by setting and value: what the definitions give, and the demand of some calls of them.
abbrev pub calls_by_name : Device → (image : List ℕ) → Setting → Value → (t : Setting) → Calls Value
calls_by_name d image s v t =
    calls_by d (λ layout bytes. set_in d layout bytes s v)
    (λ layout bytes. with_value d layout bytes s v) (read_in d) image s t

abbrev pub DemandByName : Device → (image : List ℕ) → Setting → Value → (pattern : ℕ)
    → (t : Setting) → Calls Value → Type 0
DemandByName d image s v pattern t c =
    Demand3 d (λ u. has_setting d u ≡ true) (read_in d) image s v pattern (bits_of s) (fuse_of d s) t c

-- Each answer, and the bytes that each call left, are what the definition of the call of that name gives.
pub record AsDefined (d : Device) (image : List ℕ) (s : Setting) (v : Value) (t : Setting)
    (c : Calls Value) : Type 0 where
  pub conversion : (c.converted ≡ to_readout d image c.readout_before) × (c.readout_before ≡ readout_of d image)
  pub answers : (c.set_image ≡ set_in d Image image s v) × (c.set_readout ≡ set_in d Readout c.readout_before s v)
  pub changes : (c.image ≡ with_value d Image image s v) × (c.readout ≡ with_value d Readout c.readout_before s v)
  pub image_converted : (c.converted_image ≡ to_readout d c.image c.as_readout)
      × (c.as_readout ≡ readout_of d c.image)
  pub readout_converted :
      (c.converted_readout ≡ to_image d c.readout c.as_image) × (c.as_image ≡ image_of d c.readout)
  pub readings : (c.read_image ≡ read_in d Image c.image s) × (c.read_readout ≡ read_in d Readout c.readout s)
  pub others_before : (c.other_image_before ≡ read_in d Image image t)
      × (c.other_readout_before ≡ read_in d Readout c.readout_before t)
  pub others_after : (c.other_image ≡ read_in d Image c.image t)
      × (c.other_readout ≡ read_in d Readout c.readout t)
