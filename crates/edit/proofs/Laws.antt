-- What holds of reading and setting, each law once, for every device, setting and value:
--   holds            demand 3, whole (specs/Demand.antt), of the definitions of setting, reading and the conversions
--   some_fuse        each setting of a device lists a fuse at least, so that the field `listed_fuses` is never about none
--   of_calls         the same of any calls that are those that their names say (`AsDefined`); `both_ways` of crate `demand` is such a run
--   value_iff        a pattern is that of a value exactly if it has the setting's bits and 003's list for the setting gives it this value
--   read_after_set, read_after_set_image   in any readout, whatever its other bytes hold, and in any image: a setting that was set reads
--                    as set
--   other_bits       .. and every bit of every byte that is none of the setting's stands as before
use mathlib.Core.Path.{◌≡◌, ◌∙◌}
use mathlib.Core.Bool.{true}
use mathlib.Core.List.{List}
use mathlib.Core.Option.Option.{some}
use Prim.Native.Nat.{ℕ, ◌^◌, ◌<◌}
use lib.ListN.{length, get_or}
use Rattle.part.specs.Outcome.Outcome.{accepted}
use Rattle.part.specs.Device.{known, image_bytes, readout_bytes}
use Rattle.part.specs.declared.Device.{Device}
use Rattle.image.specs.Bits.{bit_at}
use Rattle.readout.specs.Readout.{width_at}
use Rattle.settings.specs.Settings.{has_setting}
use Rattle.settings.specs.declared.Setting.{Setting}
use Rattle.setting_places.specs.Places.{bits_of, fuse_of}
use Rattle.patterns.specs.Patterns.{pattern_in}
use Rattle.values.specs.declared.Value.{Value}
use Rattle.setting_values.specs.Kinds.{kind_of}
use Rattle.setting_bits.specs.declared.Layout.{Layout}
use Rattle.setting_bits.specs.declared.Layout.TheVariants.{Image, Readout}
use Rattle.setting_bits.specs.SettingBits.{bytes_of, byte_of, bit_in, with_pattern}
use Rattle.setting_bits.proofs.Edits.{set_length, set_others, set_reads, set_clean, clean_through}
use Rattle.edit.specs.Edit.{with_value, read_in}
use Rattle.edit.proofs.NotRefused.{Clean}
use Rattle.edit.proofs.ReadsAsSet.{image_clean, readout_clean, reads}
pub use Rattle.setting_bits.proofs.Edits.{some_fuse}
pub use Rattle.edit.proofs.NotRefused.{value_iff}
pub use Rattle.edit.proofs.Demand.{holds, of_calls}

module _ (d : Device) (k : known d ≡ true) (s : Setting) (h : has_setting d s ≡ true) (v : Value) (pattern : ℕ)
    (p : pattern_in (kind_of d s) v ≡ some pattern) where
  reads_set : (layout : Layout) (bytes : List ℕ) → length bytes ≡ bytes_of d layout
      → Clean d layout (with_pattern d layout bytes s pattern) s
      → read_in d layout (with_value d layout bytes s v) s ≡ accepted v
  unfolding with_value
  reads_set layout bytes e clean =
      rw p
      (reads d layout (with_pattern d layout bytes s pattern) s pattern v k (set_length d k layout bytes e s h pattern ∙ e) h clean
      (set_reads d k layout bytes e s h pattern ((value_iff d s v pattern h).0 p).0) ((value_iff d s v pattern h).0 p).1)

  pub read_after_set_image : (image : List ℕ) → length image ≡ image_bytes d → read_in d Image (with_value d Image image s v) s ≡ accepted v
  read_after_set_image image e = reads_set Image image e (image_clean d _ _)

  -- In a readout whose bytes that hold the setting have no bit above their width; its other bytes may hold anything.
  pub read_after_set : (readout : List ℕ) → length readout ≡ readout_bytes d
      → ((b : ℕ) → b < bits_of s
      → get_or readout (byte_of d Readout (fuse_of d s b)) 0 < 2 ^ width_at d (byte_of d Readout (fuse_of d s b)))
      → read_in d Readout (with_value d Readout readout s v) s ≡ accepted v
  read_after_set readout e clean =
      reads_set Readout readout e
      (readout_clean d _ _ (clean_through d (with_pattern d Readout readout s pattern) s (bits_of s)
      (λ b l. set_clean d k readout e s h pattern (byte_of d Readout (fuse_of d s b)) (clean b l))))

  pub other_bits : (layout : Layout) (bytes : List ℕ) → length bytes ≡ bytes_of d layout → (i j : ℕ)
      → ((b : ℕ) → b < bits_of s → (i ≡ byte_of d layout (fuse_of d s b)) × (j ≡ bit_in d layout (fuse_of d s b)) → ⊥)
      → bit_at (with_value d layout bytes s v) i j ≡ bit_at bytes i j
  unfolding with_value
  other_bits layout bytes e i j apart = rw p (set_others d k layout bytes e s h pattern i j apart)
