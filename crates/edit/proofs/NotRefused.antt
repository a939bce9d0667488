-- Demand 3: "Set it in the image, or set it straight in the readout's few bytes. Neither is refused."
-- Assumes nothing.
use mathlib.Core.Path.{◌≡◌, refl}
use mathlib.Core.Logic.{◌↔◌}
use mathlib.Core.Bool.{true}
use mathlib.Core.List.{List}
use mathlib.Core.Option.Option.{some}
use Prim.Native.Nat.{ℕ, ◌^◌, ◌<◌}
use native.Mathlib.Omega.{arith}
use lib.ListN.{length}
use borrow.Author.Tests.{eq-eqb, le-ltb}
use Rattle.part.specs.Outcome.Outcome.{accepted}
use Rattle.part.specs.Device.{known, readout_bytes}
use Rattle.part.specs.declared.Device.{Device}
use Rattle.readout.specs.Readout.{readout_of}
use Rattle.readout.proofs.Laws.{from_length, readout_accepted}
use Rattle.settings.specs.Settings.{has_setting}
use Rattle.settings.specs.declared.Setting.{Setting}
use Rattle.setting_places.specs.Places.{bits_of, fuse_of}
use Rattle.patterns.specs.Patterns.{pattern_in}
use Rattle.values.specs.declared.Value.{Value}
use Rattle.patterns.proofs.Laws as patterns
use Rattle.setting_values.specs.Kinds.{kind_of, value_of}
use Rattle.setting_values.proofs.Widths.{kind_bits}
use Rattle.setting_bits.specs.declared.Layout.{Layout}
use Rattle.setting_bits.specs.declared.Layout.TheVariants.{Image, Readout}
use Rattle.setting_bits.specs.SettingBits.{bytes_of, byte_of, above_among}
use Rattle.setting_bits.proofs.Edits.{inside, fuse_below, clean_through}
use Rattle.edit.specs.Edit.{above_in, set_in}
use Rattle.edit.specs.Demand.{Premise}

-- The pattern of a value of a setting.
pub value_iff : (d : Device) (s : Setting) (v : Value) (pattern : ℕ) → has_setting d s ≡ true
    → (pattern_in (kind_of d s) v ≡ some pattern) ↔ ((pattern < 2 ^ bits_of s) × (value_of d s pattern ≡ v))
value_iff d s v pattern h = rw (← kind_bits d s h) (patterns.pattern_iff (kind_of d s) v pattern)

pub its_pattern : {d : Device} {image : List ℕ} {s : Setting} {v : Value} {pattern : ℕ} → Premise d image s v pattern
    → pattern_in (kind_of d s) v ≡ some pattern
its_pattern {d} {image} {s} {v} {pattern} taken = (value_iff d s v pattern taken.setting).1 (taken.fits, taken.value)

-- No byte that holds the setting has a bit above its width.
abbrev pub Clean : Device → Layout → List ℕ → Setting → Type 0
Clean d layout bytes t = above_in d layout bytes t ≡ bytes_of d layout

-- Setting is not refused where the device, the length, the setting and the value are right and no byte has such a bit.
sets : (d : Device) (layout : Layout) (bytes : List ℕ) (t : Setting) (v : Value) (pattern : ℕ) → known d ≡ true
    → length bytes ≡ bytes_of d layout
    → has_setting d t ≡ true → pattern_in (kind_of d t) v ≡ some pattern → Clean d layout bytes t → set_in d layout bytes t v ≡ accepted tt
unfolding set_in
sets d layout bytes t v pattern k e h p clean =
    rw (k, eq-eqb (length bytes) (bytes_of d layout) e, h, p, clean, le-ltb (bytes_of d layout) (bytes_of d layout) (omega arith))

-- The readout of an image: its length, and no byte of it has such a bit.
pub its_length : (d : Device) (image : List ℕ) → length (readout_of d image) ≡ readout_bytes d
unfolding readout_of
its_length d image = from_length d _

pub its_bits : (d : Device) (image : List ℕ) (t : Setting) → known d ≡ true → has_setting d t ≡ true
    → above_among d (readout_of d image) t (bits_of t) ≡ readout_bytes d
its_bits d image t k h =
    clean_through d (readout_of d image) t (bits_of t)
    (λ b l. readout_accepted d image (byte_of d Readout (fuse_of d t b)) (inside d Readout (fuse_of d t b) k (fuse_below d k t h b l)))

pub not_refused : (d : Device) (image : List ℕ) (s : Setting) (v : Value) (pattern : ℕ) → Premise d image s v pattern
    → (set_in d Image image s v ≡ accepted tt) × (set_in d Readout (readout_of d image) s v ≡ accepted tt)
unfolding above_in
not_refused d image s v pattern taken = (
  sets d Image image s v pattern taken.device taken.size taken.setting (its_pattern taken) refl,
  sets d Readout (readout_of d image) s v pattern taken.device (its_length d image) taken.setting (its_pattern taken)
      (its_bits d image s taken.device taken.setting),
)
