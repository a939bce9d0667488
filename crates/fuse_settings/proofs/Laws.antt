-- What holds of the setting at a fuse, each law once, for every device:
--   fuses_inverse     a bit of a setting is this fuse exactly if the setting and the bit at that fuse are these
--   located_inverse   a bit of a setting is this fuse at this address and bit exactly if the setting and the bit at that fuse are these
--                     and the conversion gives the fuse this address and bit
--   at_fuse_has       a fuse that is named is one of a setting that the device has
--   apart             no two settings share a fuse, and no setting has a fuse twice
--   unnamed_iff       a fuse below the count is unnamed exactly if no setting lists it
--   always_listed_lem     a literal or a wire-AND that is the candidate at the place of a fuse is the setting there
--                         (proofs/NamedFuses.antt)
--   unnamed_count     how many fuses are unnamed in each class (proofs/Unnamed.antt)
--   bench_cases_lem       document 01's cases about settings and fuses
--   corner_cases, field_cases, global_cases   the fuses of literals, wire-ANDs and every field, on the part of two blocks
--                                             (specs/Cases.antt)
use mathlib.Core.Path.{◌≡◌, refl, sym, ◌∙◌, ap, subst}
use mathlib.Core.Logic.{◌↔◌}
use mathlib.Core.Bool.{true, cond, ◌&&◌}
use mathlib.Core.Option.{Option}
use mathlib.Core.Option.Option.{none, some}
use Prim.Native.Nat.{ℕ, ◌<◌}
use native.Mathlib.Omega.{arith}
use lib.Dec.{ltb, eqb}
use borrow.Author.Tests.{lt-ltb, eqb-true, eq-eqb}
use Rattle.part.specs.Outcome.{Outcome}
use Rattle.part.specs.Outcome.Outcome.{accepted}
use Rattle.part.specs.Device.{known, fuse_count}
use Rattle.part.specs.Place.{place_of_fuse}
use Rattle.part.specs.declared.Device.{Device}
use Rattle.part.proofs.Facts.{and_iff, given}
use Rattle.part.proofs.Fuses.{of_place}
use Rattle.part.proofs.Checks.{passed, result}
use Rattle.addresses.specs.Convert.{address_of_fuse}
use Rattle.settings.specs.Settings.{has_setting}
use Rattle.settings.specs.declared.Setting.{Setting}
use Rattle.setting_places.specs.Places.{bits_of, fuse_of, place_of, lists}
use Rattle.fuse_settings.specs.Back.{candidate_at, setting_at, field_index_at_row, last_up_to}
use Rattle.setting_places.specs.Operations.{fuse_of_bit, located_bit}
use Rattle.fuse_settings.specs.Operations.{setting_at_fuse}
use Rattle.fuse_settings.specs.Cases.{AllHold, bench_cases, corners, of_macrocell_and_block, of_globals}
use Rattle.part.specs.Cases.{two_small}
use Rattle.settings.specs.Cases.{two_large}
use Rattle.setting_places.proofs.OnePlaceEach.{has_place_lem}
use Rattle.setting_places.proofs.Laws.{listed, fuse_below, address_beside}
use Rattle.fuse_settings.proofs.CandidateInverse.{candidate_inverse}
use Rattle.fuse_settings.proofs.OnFuses as on-fuses

-- The way back is the left inverse of the step to the fuse, and leads nowhere else.
module _ (d : Device) (k : known d ≡ true) where
  pub left_inverse : on-fuses.LeftInverse (fuse_count d) (lists d) (fuse_of d) (setting_at d)
  unfolding setting_at fuse_of
  left_inverse = record {
    below = λ s bit h. let l = listed d s bit h in fuse_below d s bit k l.0 l.1;
    inverse = λ s bit h.
        let l = listed d s bit h in
        let place = (of_place d (place_of s bit) (has_place_lem d s bit k l.0 l.1)).1 in
        rw (place, candidate_inverse d s bit l.0 l.1, h, eq-eqb (fuse_of d s bit) (fuse_of d s bit) refl);
  }

  pub sound : on-fuses.Sound (fuse_count d) (lists d) (fuse_of d) (setting_at d)
  unfolding setting_at
  sound f s bit e = checked (candidate_at (place_of_fuse d f)).setting (candidate_at (place_of_fuse d f)).bit e
    where
      checked : (t : Setting) (b : ℕ)
          → ◌≡◌ {A = Option (Setting × ℕ)} (cond (lists d t b && eqb (fuse_of d t b) f) (some (t, b)) none) (some (s, bit))
          → (lists d s bit ≡ true) × (fuse_of d s bit ≡ f)
      checked t b e =
          let listed-so = given (lists d t b && eqb (fuse_of d t b) f) (t, b) (s, bit) e in
          let both = (and_iff (lists d t b) (eqb (fuse_of d t b) f)).0 listed-so.0 in
          subst (λ (p : Setting × ℕ). (lists d p.0 p.1 ≡ true) × (fuse_of d p.0 p.1 ≡ f)) listed-so.1
          (both.0, eqb-true _ f both.1)

  -- No two settings share a fuse, and no setting has a fuse twice.
  pub apart : (s t : Setting) (b c : ℕ) → lists d s b ≡ true → lists d t c ≡ true → fuse_of d s b ≡ fuse_of d t c → (s ≡ t) × (b ≡ c)
  apart = on-fuses.apart (fuse_count d) (lists d) (fuse_of d) (setting_at d) left_inverse

  -- A fuse is unnamed exactly if no setting lists it.
  pub unnamed : (f : ℕ) → (setting_at d f ≡ none) ↔ ((s : Setting) (bit : ℕ) → lists d s bit ≡ true → fuse_of d s bit ≡ f → ⊥)
  unnamed = on-fuses.unnamed_iff (fuse_count d) (lists d) (fuse_of d) (setting_at d) left_inverse sound

-- A bit of a setting and its fuse, through the operations.
fuses_to : (d : Device) (s : Setting) (bit f : ℕ) → fuse_of_bit d s bit ≡ accepted (some f) → setting_at_fuse d f ≡ accepted (some (s, bit))
unfolding fuse_of_bit setting_at_fuse
fuses_to d s bit f e =
    let outer = passed (known d) _ 1 0 e in
    let inner = passed (has_setting d s) _ 4 0 outer.1 in
    let listed-so = given (ltb bit (bits_of s)) (fuse_of d s bit) f (result inner.1) in
    let l = (and_iff (has_setting d s) (ltb bit (bits_of s))).1 (inner.0, listed-so.0) in
    let left = left_inverse d outer.0 in
    let below : ltb (fuse_of d s bit) (fuse_count d) ≡ true = lt-ltb _ _ (left.below s bit l) in
    rw (outer.0, ← listed-so.1, below, left.inverse s bit l)

fuses_from : (d : Device) (s : Setting) (bit f : ℕ) → setting_at_fuse d f ≡ accepted (some (s, bit))
    → fuse_of_bit d s bit ≡ accepted (some f)
unfolding fuse_of_bit setting_at_fuse
fuses_from d s bit f e =
    let outer = passed (known d) _ 1 0 e in
    let inner = passed (ltb f (fuse_count d)) _ 3 0 outer.1 in
    let listed-so = sound d outer.0 f s bit (result inner.1) in
    let both = (and_iff (has_setting d s) (ltb bit (bits_of s))).0 listed-so.0 in
    rw (outer.0, both.0, both.1, listed-so.1)

pub fuses_inverse : (d : Device) (s : Setting) (bit f : ℕ)
    → (fuse_of_bit d s bit ≡ accepted (some f)) ↔ (setting_at_fuse d f ≡ accepted (some (s, bit)))
fuses_inverse d s bit f = (fuses_to d s bit f, fuses_from d s bit f)

pub located_inverse : (d : Device) (s : Setting) (bit f address bitThere : ℕ)
    → (located_bit d s bit ≡ accepted (some (f, (address, bitThere))))
    ↔ ((setting_at_fuse d f ≡ accepted (some (s, bit))) × (address_of_fuse d f ≡ accepted (address, bitThere)))
located_inverse d s bit f address bitThere =
    let beside = address_beside d s bit f address bitThere in (
      λ e. let both = beside.0 e in (fuses_to d s bit f both.0, both.1),
      λ both. beside.1 (fuses_from d s bit f both.0, both.1),
    )

-- A fuse that is named is one of a setting that the device has.
pub at_fuse_has : (d : Device) (f : ℕ) (s : Setting) (bit : ℕ) → setting_at_fuse d f ≡ accepted (some (s, bit))
    → (known d ≡ true) × (has_setting d s ≡ true)
unfolding fuse_of_bit
at_fuse_has d f s bit e =
    let outer = passed (known d) _ 1 0 (fuses_from d s bit f e) in (outer.0, (passed (has_setting d s) _ 4 0 outer.1).0)

pub unnamed_iff : (d : Device) (f : ℕ) → known d ≡ true → f < fuse_count d
    → (setting_at_fuse d f ≡ accepted none) ↔ ((s : Setting) (bit : ℕ) → fuse_of_bit d s bit ≡ accepted (some f) → ⊥)
unfolding setting_at_fuse fuse_of_bit
unnamed_iff d f k h = (
  λ e s bit at. differ (sym (rw (k, lt-ltb f (fuse_count d) h) at (fuses_to d s bit f at)) ∙ (rw (k, lt-ltb f (fuse_count d) h) at e)),
  λ never. rw (k, lt-ltb f (fuse_count d) h) (ap accepted ((unnamed d k f).1 (λ s bit l at. never s bit (listed_there s bit l at)))),
)
  where
    differ : {s : Setting} {bit : ℕ} → ◌≡◌ {A = Outcome (Option (Setting × ℕ))} (accepted (some (s, bit))) (accepted none) → ⊥
    differ e = let z : ◌≡◌ {A = ℕ} 0 1 = cc in omega arith

    listed_there : (s : Setting) (bit : ℕ) → lists d s bit ≡ true → fuse_of d s bit ≡ f → fuse_of_bit d s bit ≡ accepted (some f)
    listed_there s bit l at =
        let both = (and_iff (has_setting d s) (ltb bit (bits_of s))).0 l in rw (k, both.0, both.1, at)

pub bench_cases_lem : AllHold two_small bench_cases
unfolding fuse_of_bit setting_at_fuse setting_at candidate_at known fuse_count place_of_fuse field_index_at_row last_up_to
    has_setting bits_of place_of fuse_of
bench_cases_lem = (refl, refl)

pub corner_cases : AllHold two_small corners
unfolding fuse_of_bit setting_at_fuse setting_at candidate_at known fuse_count place_of_fuse field_index_at_row last_up_to
    has_setting bits_of place_of fuse_of
corner_cases = (refl, refl)

pub field_cases : AllHold two_small of_macrocell_and_block
unfolding fuse_of_bit setting_at_fuse setting_at candidate_at known fuse_count place_of_fuse field_index_at_row last_up_to
    has_setting bits_of place_of fuse_of
field_cases = (refl, refl)

pub global_cases : AllHold two_large of_globals
unfolding fuse_of_bit setting_at_fuse setting_at candidate_at known fuse_count place_of_fuse field_index_at_row last_up_to
    has_setting bits_of place_of fuse_of
global_cases = (refl, refl)
