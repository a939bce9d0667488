-- The answer for a bit of a setting that the device has: none past its width, else the fuse, the address and the bit of its place.
-- Assumes nothing.
use mathlib.Core.Path.{◌≡◌, refl, ◌∙◌, ap}
use mathlib.Core.Bool.{true}
use mathlib.Core.Option.{Option}
use mathlib.Core.Option.Option.{none, some}
use Prim.Native.Nat.{ℕ, ◌<◌, ◌≤◌}
use native.Mathlib.Omega.{arith}
use borrow.Author.Tests.{lt-ltb, le-ltb}
use Rattle.part.specs.Outcome.{Outcome}
use Rattle.part.specs.Outcome.Outcome.{accepted}
use Rattle.part.specs.Device.{known}
use Rattle.part.specs.Place.{has_place, fuse_of_place}
use Rattle.part.specs.declared.Device.{Device}
use Rattle.part.specs.declared.Place.{Place}
use Rattle.addresses.specs.Address.{address_of_place}
use Rattle.settings.specs.Settings.{has_setting}
use Rattle.settings.specs.Order.{start, count_of, in_group, setting_of}
use Rattle.settings.specs.Order.Group.{literals, wire_ands}
use Rattle.settings.specs.declared.Setting.{Setting}
use Rattle.settings.proofs.Numbering.{ends, number_inverse}
use Rattle.settings.proofs.Among.{among_literals}
use Rattle.setting_places.specs.Places.{LocatedFuse, place_of, bits_of, fuse_of, address_of}
use Rattle.settings.specs.Operations.{setting_of_number}
use Rattle.setting_places.specs.Operations.{located_bit, located_by_number}
use Rattle.setting_places.proofs.OnePlaceEach.{place_there}

-- What `located` finds at a place.
abbrev pub at_place : Device → Place → LocatedFuse
at_place d p = (fuse_of_place d p, address_of_place p)

module _ (d : Device) (s : Setting) (bit width : ℕ) (k : known d ≡ true) (h : has_setting d s ≡ true) (e : width ≡ bits_of s) where
  pub no_bit_lem : width ≤ bit → accepted none ≡ located_bit d s bit
  unfolding located_bit
  no_bit_lem g = rw (k, h, le-ltb bit (bits_of s) (omega arith))

  module _ (l : bit < width) (p : Place) (at : p ≡ place_of s bit) where
    pub there : has_place d p ≡ true
    there = place_there d s bit p k h (omega arith) at

    pub at_place_lem : (x : LocatedFuse) → x ≡ at_place d p → accepted (some x) ≡ located_bit d s bit
    unfolding located_bit fuse_of address_of
    at_place_lem x f = rw (k, h, lt-ltb bit (bits_of s) (omega arith), ← at, f)

-- The same for a setting of one bit.
module _ (d : Device) (s : Setting) (bit : ℕ) (k : known d ≡ true) (h : has_setting d s ≡ true) (e : 1 ≡ bits_of s) where
  pub no_second_bit : 0 < bit → accepted none ≡ located_bit d s bit
  no_second_bit g = no_bit_lem d s bit 1 k h e (omega arith)

  module _ (p : Place) (at : p ≡ place_of s 0) where
    pub there_once : has_place d p ≡ true
    there_once = there d s 0 1 k h e (omega arith) p at

    pub at_one_place : bit ≤ 0 → (x : LocatedFuse) → x ≡ at_place d p → accepted (some x) ≡ located_bit d s bit
    at_one_place l x f =
        let same : 0 ≡ bit = omega arith in at_place_lem d s 0 1 k h e (omega arith) p at x f ∙ ap (located_bit d s) same

-- A literal by its number: the device has it, and it has one bit.
module _ (d : Device) (x : ℕ) (l : x < start d wire_ands) where
  pub literal_there : has_setting d (setting_of d x) ≡ true
  literal_there = (number_inverse d x (omega (arith, ends d literals))).0

  pub literal_bits : 1 ≡ bits_of (setting_of d x)
  unfolding bits_of
  literal_bits = ap bits_of (among_literals d x (start d wire_ands) 0 (in_group d literals x) refl l refl)

-- A wire-AND has one bit.
pub wire_and_bits : (d : Device) (x : ℕ) → 1 ≡ bits_of (in_group d wire_ands x)
unfolding bits_of
wire_and_bits d x = refl

-- What is answered for the setting of a number is what is answered for the number.
pub for_setting : (d : Device) (x bit : ℕ) (o : Outcome (Option LocatedFuse)) → known d ≡ true → (s : Setting) → x < count_of d
    → s ≡ setting_of d x → o ≡ located_bit d s bit → o ≡ located_by_number d x bit
unfolding located_by_number setting_of_number
for_setting d x bit o k s l e f = rw (k, lt-ltb x (count_of d) l, ← e) f
