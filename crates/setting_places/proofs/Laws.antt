-- What holds of the fuses of settings, each law once, for every device:
--   each_bit          every bit of every setting has a fuse, and it is below the count
--   fuse_as_before    the answer with address and bit has the fuse that is answered without them, and is refused or none where that is
--   numbered_as_before   the same by setting number
--   converted         the conversion gives the fuse of a bit the address and the bit of its place
--   address_beside    a bit is this fuse at this address and bit exactly if it is this fuse and the conversion gives the fuse these two
--   address_cases     fuses with their addresses on the part of two blocks (specs/Cases.antt)
--   usercode_rows     USERCODE's two rows in document 01's words, from place to bit
use mathlib.Core.Path.{◌≡◌, refl, sym, ◌∙◌, ap}
use mathlib.Core.Logic.{◌↔◌}
use mathlib.Core.Bool.{Bool, true, false, cond}
use mathlib.Core.Option.Option.{none, some}
use Prim.Native.Nat.{ℕ, ◌<◌}
use native.Mathlib.Omega.{arith}
use lib.Dec.{ltb}
use borrow.Author.Tests.{lt-ltb, ltb-true}
use Rattle.part.specs.Outcome.{Outcome}
use Rattle.part.specs.Outcome.Outcome.{accepted, refused}
use Rattle.part.specs.Device.{known, fuse_count}
use Rattle.part.specs.declared.Device.{Device}
use Rattle.part.proofs.Facts.{and_iff, given}
use Rattle.part.proofs.Checks.{passed, result}
use Rattle.part.proofs.Fuses.{of_place}
use Rattle.addresses.specs.Convert.{address_of_fuse}
use Rattle.addresses.proofs.Conversions.{address_of_fuse_iff}
use Rattle.settings.specs.Settings.{has_setting}
use Rattle.settings.specs.Operations.{setting_of_number, through}
use Rattle.settings.specs.declared.Setting.{Setting}
use Rattle.setting_places.specs.Places.{main, bits_of, fuse_of, address_of, place_of, lists}
use Rattle.setting_places.specs.Operations.{fuse_of_bit, located_bit, located_by_number, fuse_alone}
use Rattle.setting_places.specs.Cases.{UsercodeRows, AllHold, cases}
use Rattle.setting_places.proofs.OnePlaceEach.{has_place_lem}

module _ (d : Device) where
  pub listed : (s : Setting) (bit : ℕ) → lists d s bit ≡ true → (has_setting d s ≡ true) × (bit < bits_of s)
  listed s bit h = let both = (and_iff (has_setting d s) (ltb bit (bits_of s))).0 h in (both.0, ltb-true _ _ both.1)

  pub fuse_below : (s : Setting) (bit : ℕ) → known d ≡ true → has_setting d s ≡ true → bit < bits_of s → fuse_of d s bit < fuse_count d
  unfolding fuse_of
  fuse_below s bit k h hb = (of_place d (place_of s bit) (has_place_lem d s bit k h hb)).0

pub each_bit : (d : Device) → known d ≡ true → (s : Setting) (bit : ℕ) → has_setting d s ≡ true → bit < bits_of s
    → (f : ℕ) × (f < fuse_count d) × (fuse_of_bit d s bit ≡ accepted (some f))
unfolding fuse_of_bit
each_bit d k s bit h hb = (fuse_of d s bit, fuse_below d s bit k h hb, rw (k, h, lt-ltb bit (bits_of s) hb))

pub fuse_as_before : (d : Device) (s : Setting) (bit : ℕ) → fuse_alone (located_bit d s bit) ≡ fuse_of_bit d s bit
unfolding located_bit fuse_of_bit
fuse_as_before d s bit = by_tests (known d) (has_setting d s) (ltb bit (bits_of s)) (fuse_of d s bit) (address_of s bit)
  where
    by_tests : (known has inside : Bool) (fuse : ℕ) (at : ℕ × ℕ)
        → fuse_alone (cond known (cond has (accepted (cond inside (some (fuse, at)) none)) (refused 4 0)) (refused 1 0))
        ≡ cond known (cond has (accepted (cond inside (some fuse) none)) (refused 4 0)) (refused 1 0)
    by_tests false has inside fuse at = refl
    by_tests true false inside fuse at = refl
    by_tests true true false fuse at = refl
    by_tests true true true fuse at = refl

pub numbered_as_before : (d : Device) (number bit : ℕ)
    → fuse_alone (located_by_number d number bit) ≡ through (setting_of_number d number) (λ s. fuse_of_bit d s bit)
unfolding located_by_number
numbered_as_before d number bit = by_answer (setting_of_number d number)
  where
    by_answer : (o : Outcome Setting) → fuse_alone (through o (λ s. located_bit d s bit)) ≡ through o (λ s. fuse_of_bit d s bit)
    by_answer (accepted s) = fuse_as_before d s bit
    by_answer (refused refusal value) = refl

pub converted : (d : Device) (s : Setting) (bit : ℕ) → known d ≡ true → has_setting d s ≡ true → bit < bits_of s
    → address_of_fuse d (fuse_of d s bit) ≡ accepted (address_of s bit)
unfolding fuse_of address_of
converted d s bit k h hb =
    (address_of_fuse_iff d _ _ _).1
    (record {
      device = k;
      place = place_of s bit;
      there = has_place_lem d s bit k h hb;
      its_fuse = refl;
      its_address = refl;
      its_bit =
          refl;
    })

pub address_beside : (d : Device) (s : Setting) (bit fuse address bitThere : ℕ)
    → (located_bit d s bit ≡ accepted (some (fuse, (address, bitThere))))
    ↔ ((fuse_of_bit d s bit ≡ accepted (some fuse)) × (address_of_fuse d fuse ≡ accepted (address, bitThere)))
unfolding located_bit fuse_of_bit
address_beside d s bit fuse address bitThere = (
  λ e.
      let outer = passed (known d) _ 1 0 e in
      let inner = passed (has_setting d s) _ 4 0 outer.1 in
      let its = given (ltb bit (bits_of s)) (fuse_of d s bit, address_of s bit) (fuse, (address, bitThere)) (result inner.1) in
      let at = converted d s bit outer.0 inner.0 (ltb-true _ _ its.0) in
      let both : (fuse_of d s bit ≡ fuse) × (address_of s bit ≡ (address, bitThere)) = parts its.1 in
      (rw (outer.0, inner.0, its.0, both.0), rw (both.0, both.1) at at),
  λ both.
      let outer = passed (known d) _ 1 0 both.0 in
      let inner = passed (has_setting d s) _ 4 0 outer.1 in
      let its = given (ltb bit (bits_of s)) (fuse_of d s bit) fuse (result inner.1) in
      let at = converted d s bit outer.0 inner.0 (ltb-true _ _ its.0) in
      let same : address_of s bit ≡ (address, bitThere) = result (sym at ∙ rw its.1 both.1) in
      rw (outer.0, inner.0, its.0, its.1, same),
)
  where
    parts : {f g : ℕ} {a b : ℕ × ℕ} → ◌≡◌ {A = ℕ × (ℕ × ℕ)} (f, a) (g, b) → (f ≡ g) × (a ≡ b)
    parts e = (ap (λ (q : ℕ × (ℕ × ℕ)). q.0) e, ap (λ (q : ℕ × (ℕ × ℕ)). q.1) e)

pub address_cases : AllHold cases
unfolding located_bit known has_setting bits_of place_of fuse_of address_of
address_cases = refl

pub usercode_rows : UsercodeRows
usercode_rows i b hi low high =
    (at (omega arith) (omega arith) (omega arith), at (omega arith) (omega arith) (omega arith))
  where
    at : {row column bit row2 column2 bit2 : ℕ} → row ≡ row2 → column ≡ column2 → bit ≡ bit2
        → main 0 row column bit ≡ main 0 row2 column2 bit2
    at e f g = rw (e, f, g)
