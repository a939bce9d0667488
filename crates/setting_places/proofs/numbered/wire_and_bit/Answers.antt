-- `wire_and_bit` meets its contract: the setting at the position is a wire-AND, which has one bit.
-- Assumes nothing.
use mathlib.Core.Path.{◌≡◌}
use Prim.Native.Nat.{ℕ}
use Rattle.part.specs.declared.Device.{Device}
use Rattle.part.specs.declared.Place.{Place}
use Rattle.settings.specs.Order.{in_group}
use Rattle.settings.specs.Order.Group.{wire_ands}
use Rattle.settings.specs.declared.Setting.TheVariants.{WireAnd}
use Rattle.settings.proofs.Among.{has_in_group}
use Rattle.setting_places.specs.Places.{place_of}
use Rattle.setting_places.proofs.AtPlace.{wire_and_bits, no_second_bit, there_once, at_one_place}
use borrow.Author.Rules.{rules}
use Rattle.setting_places.proofs.numbered.wire_and_bit.Goals as goal

its_place : (d : Device) (x block j k l : ℕ) (p : Place) → WireAnd block j k l ≡ in_group d wire_ands x
    → p ≡ place_of (WireAnd block j k l) 0 → p ≡ place_of (in_group d wire_ands x) 0
its_place d x block j k l p e g = rw (← e) g

pub returns-then-bit-gt0 : goal.returns-then-bit-gt0
returns-then-bit-gt0 c = search (rules, has_in_group, wire_and_bits, no_second_bit)

pub located-requires : goal.located-requires
located-requires c = search (rules, has_in_group, wire_and_bits, its_place, there_once)

pub returns : goal.returns
returns c = search (rules, has_in_group, wire_and_bits, its_place, at_one_place)
