-- `field_bit` meets its contract: the setting at the position is a field of a macrocell, with the rows of its byte.
-- Assumes nothing.
use mathlib.Core.Path.{◌≡◌}
use mathlib.Core.Bool.{true}
use Prim.Native.Nat.{ℕ, ◌+◌, ◌*◌, ◌/◌, ◌%◌, ◌^◌, ◌<◌}
use native.Mathlib.Omega.{arith}
use Rattle.part.specs.Device.{known}
use Rattle.part.specs.declared.Device.{Device}
use Rattle.part.specs.declared.Place.{Place}
use Rattle.part.proofs.Devices.{blocks_small}
use Rattle.settings.specs.Order.{size, macrocell_field_at, in_group}
use Rattle.settings.specs.Order.Group.{macrocell_settings}
use Rattle.settings.proofs.Among.{has_in_group}
use Rattle.setting_places.specs.Places.{main, first_row, rows, place_of, bits_of}
use Rattle.setting_places.proofs.AtPlace.{no_bit_lem, there, at_place_lem}
use borrow.Author.Rules.{rules}
use Rattle.setting_places.proofs.numbered.field_bit.Goals as goal

-- The product that stands for a division.
module _ (d : Device) (x : ℕ) (k : known d ≡ true) (l : x < size d macrocell_settings) where
  few : x < 7776
  few = omega (arith, blocks_small d k)

  field_quotient : x * 9710 / 2 ^ 18 ≡ x / 27
  field_quotient = omega (arith, few)

module _ (d : Device) (x i : ℕ) (ei : i ≡ x % 27) where
  index : x % 486 % 27 / 1 ≡ i
  index = omega arith

  width : (count : ℕ) → count ≡ rows (macrocell_field_at i) → count ≡ bits_of (in_group d macrocell_settings x)
  unfolding bits_of
  width count e = rw index e

  its_place : (first m bit : ℕ) (p : Place) → first ≡ first_row (macrocell_field_at i) → m ≡ x / 27
      → p ≡ main (m / 18) (first + bit) (m % 18 % 9) (6 + m % 18 / 9) → p ≡ place_of (in_group d macrocell_settings x) bit
  unfolding place_of
  its_place first m bit p e em g =
      let block : x / 486 ≡ m / 18 = omega arith in
      let macrocell : x % 486 / 27 ≡ m % 18 = omega arith in
      rw (index, block, macrocell, ← e) g

pub divided-fields-requires : goal.divided-fields-requires
divided-fields-requires c = search (rules, field_quotient)

pub returns-then-rows-bit : goal.returns-then-rows-bit
returns-then-rows-bit c = search (rules, has_in_group, width, no_bit_lem)

pub located-requires : goal.located-requires
located-requires c = search (rules, has_in_group, width, its_place, there)

pub returns : goal.returns
returns c = search (rules, has_in_group, width, its_place, at_place_lem)
