-- Demand 3 holds of the operations by setting number and pattern: their bytes are those of the operations by setting and value, and a
-- number reads as the pattern that stands in its fuses.
use mathlib.Core.Path.{◌≡◌, refl, sym, ◌∙◌, ap}
use mathlib.Core.Logic.{◌≢◌}
use mathlib.Core.Bool.{true}
use mathlib.Core.List.{List}
use Prim.Native.Nat.{ℕ, ◌<◌}
use native.Mathlib.Omega.{arith}
use lib.ListN.{length}
use Rattle.part.specs.Outcome.Outcome.{accepted}
use Rattle.part.specs.Device.{known, image_bytes}
use Rattle.part.specs.declared.Device.{Device}
use Rattle.readout.specs.Readout.{readout_of}
use Rattle.settings.specs.Settings.{has_setting}
use Rattle.settings.specs.Order.{count_of, number_of, setting_of}
use Rattle.settings.specs.declared.Setting.{Setting}
use Rattle.settings.proofs.Numbering.{number_inverse}
use Rattle.values.specs.declared.Value.{Value}
use Rattle.setting_values.specs.Kinds.{value_of}
use Rattle.setting_bits.specs.declared.Layout.{Layout}
use Rattle.setting_bits.specs.declared.Layout.TheVariants.{Image, Readout}
use Rattle.setting_bits.specs.SettingBits.{bytes_of, pattern_at}
use Rattle.setting_bits.proofs.Edits.{set_length, set_reads, set_others_read, same_pattern}
use Rattle.edit.specs.Edit.{set_in, with_value}
use Rattle.edit.specs.Demand.{Premise}
use Rattle.edit.proofs.NotRefused.{Clean, its_length, its_bits}
use Rattle.edit.proofs.ReadsAsSet.{image_clean, readout_clean}
use Rattle.edit.proofs.Demand.{holds}
use Rattle.edit_by_number.specs.ByNumber.{read_pattern, set_pattern, with_numbered}
use Rattle.edit_by_number.specs.Demand.{NumberTaken, calls_by_number, DemandByNumber}
use Rattle.edit_by_number.proofs.Asked.{reads_clean}
use Rattle.edit_by_number.proofs.ByName.{sets_numbered}

-- What a number reads as in bytes of the right length without a bit above a width.
reads : (d : Device) (layout : Layout) (bytes : List ℕ) (x : ℕ) → known d ≡ true → length bytes ≡ bytes_of d layout → x < count_of d
    → Clean d layout bytes (setting_of d x) → read_pattern d layout bytes x ≡ accepted (pattern_at d layout bytes (setting_of d x))
reads d layout bytes x k n l clean = sym (reads_clean d layout bytes x k n l _ refl _ clean _ (omega (arith, n)) refl)

-- What it reads as in an image and in its readout.
module _ (d : Device) (k : known d ≡ true) (image : List ℕ) (e : length image ≡ image_bytes d) (x : ℕ) (l : x < count_of d) where
  in_image : read_pattern d Image image x ≡ accepted (pattern_at d Image image (setting_of d x))
  in_image = reads d Image image x k e l (image_clean d image _)

  in_readout : read_pattern d Readout (readout_of d image) x ≡ accepted (pattern_at d Image image (setting_of d x))
  in_readout =
      let there = (number_inverse d x l).0 in
      reads d Readout (readout_of d image) x k (its_length d image) l (readout_clean d (readout_of d image) _ (its_bits d image _ k there))
      ∙ ap accepted (same_pattern d image k (setting_of d x) there)

module _ (d : Device) (image : List ℕ) (x pattern : ℕ) (taken : NumberTaken d image x pattern) where
  s : Setting
  s = setting_of d x

  v : Value
  v = value_of d s pattern

  there : has_setting d s ≡ true
  unfolding s
  there = (number_inverse d x taken.setting).0

  named : Premise d image s v pattern
  unfolding s v
  named = record {
    device = taken.device;
    size = taken.size;
    bytes = taken.bytes;
    setting = there;
    fits = taken.fits;
    value = refl;
  }

  -- The changed image, and the changed readout, which is its readout.
  after : List ℕ
  after = with_numbered d Image image x pattern

  its_size : length after ≡ image_bytes d
  unfolding after with_numbered s
  its_size = set_length d taken.device Image image taken.size s there pattern ∙ taken.size

  after_by_name : (layout : Layout) (bytes : List ℕ) → with_numbered d layout bytes x pattern ≡ with_value d layout bytes s v
  unfolding s v
  after_by_name layout bytes = (sets_numbered d taken.device layout bytes x taken.setting pattern taken.fits).1

  sets : (layout : Layout) (bytes : List ℕ) → set_pattern d layout bytes x pattern ≡ set_in d layout bytes s v
  unfolding s v
  sets layout bytes = (sets_numbered d taken.device layout bytes x taken.setting pattern taken.fits).0

  same : with_numbered d Readout (readout_of d image) x pattern ≡ readout_of d after
  unfolding after
  same =
      after_by_name Readout (readout_of d image)
      ∙ (holds d image s v pattern named s).same_readout
      ∙ ap (readout_of d) (sym (after_by_name Image image))

  as_set : pattern_at d Image after s ≡ pattern
  unfolding after with_numbered s
  as_set = set_reads d taken.device Image image taken.size s there pattern taken.fits

  as_before : (u : ℕ) → u < count_of d → u ≢ x → pattern_at d Image after (setting_of d u) ≡ pattern_at d Image image (setting_of d u)
  unfolding after with_numbered s
  as_before u l ne =
      set_others_read d taken.device Image image taken.size s there pattern (setting_of d u) (number_inverse d u l).0
      (λ e. ne (sym (number_inverse d u l).1 ∙ ap (number_of d) e ∙ (number_inverse d x taken.setting).1))

  others : (u : ℕ) → u < count_of d → u ≢ x
      → (read_pattern d Image after u ≡ read_pattern d Image image u)
      × (read_pattern d Readout (readout_of d after) u ≡ read_pattern d Readout (readout_of d image) u)
  others u l ne =
      let k = taken.device in
      let stands : accepted (pattern_at d Image after (setting_of d u)) ≡ accepted (pattern_at d Image image (setting_of d u)) =
      ap accepted (as_before u l ne) in (
        in_image d k after its_size u l ∙ stands ∙ sym (in_image d k image taken.size u l),
        in_readout d k after its_size u l ∙ stands ∙ sym (in_readout d k image taken.size u l),
      )

  pub holds_by_number : (other : ℕ) → DemandByNumber d image x pattern other (calls_by_number d image x pattern other)
  unfolding s v after
  holds_by_number other =
      let k = taken.device in
      let by_name = holds d image s v pattern named s in
      let in-as-image = after_by_name Image image in
      let in-as-readout = after_by_name Readout (readout_of d image) in
      record {
        not_refused = (sets Image image ∙ by_name.not_refused.0, sets Readout (readout_of d image) ∙ by_name.not_refused.1);
        same_readout = same;
        same_image = rw (in-as-image, in-as-readout) by_name.same_image;
        reads_as_set = (
          in_image d k after its_size x taken.setting ∙ ap accepted as_set,
          rw same (in_readout d k after its_size x taken.setting ∙ ap accepted as_set),
        );
        others_as_before = (λ l ne. rw same (others other l ne), λ u l ne. rw same (others u l ne));
        listed_fuses = rw (in-as-image, in-as-readout) by_name.listed_fuses;
        other_fuses = rw (in-as-image, in-as-readout) by_name.other_fuses;
        conversions_accepted = rw (in-as-image, in-as-readout) by_name.conversions_accepted;
      }
