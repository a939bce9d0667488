-- `fuse_of_numbered_bit` meets its contract: the tests find the group of the number, and the answer is that for its setting.
-- Assumes nothing.
use mathlib.Core.Path.{◌≡◌, refl}
use mathlib.Core.Bool.{true}
use mathlib.Core.Option.{Option}
use Prim.Native.Nat.{ℕ, ◌-◌, ◌<◌, ◌≤◌}
use native.Mathlib.Omega.{arith}
use Rattle.part.specs.Outcome.{Outcome}
use Rattle.part.specs.Device.{known}
use Rattle.part.specs.declared.Device.{Device}
use Rattle.settings.specs.Order.{start, in_group, setting_of}
use Rattle.settings.specs.Order.Group.{literals, wire_ands, macrocell_settings, block_settings}
use Rattle.settings.proofs.Numbering.{ends}
use Rattle.settings.proofs.Among.{among_wire_ands, among_macrocells}
use Rattle.setting_places.proofs.AtPlace.{for_setting}
use Rattle.setting_places.specs.Places.{LocatedFuse}
use Rattle.setting_places.specs.Operations.{located_bit, located_by_number}
use borrow.Author.Rules.{rules}
use Rattle.setting_places.proofs.fuse_of_numbered_bit.Goals as goal

module _ (d : Device) (x bit : ℕ) (o : Outcome (Option LocatedFuse)) (k : known d ≡ true) where
  for_literal : x < start d wire_ands → o ≡ located_bit d (setting_of d x) bit → o ≡ located_by_number d x bit
  for_literal l f = for_setting d x bit o k (setting_of d x) (omega (arith, ends d literals)) refl f

  for_wire_and : (a b : ℕ) → a ≡ start d wire_ands → b ≡ start d macrocell_settings → a ≤ x → x < b
      → o ≡ located_bit d (in_group d wire_ands (x - a)) bit → o ≡ located_by_number d x bit
  for_wire_and a b e f low high g =
      for_setting d x bit o k (in_group d wire_ands (x - a)) (omega (arith, ends d wire_ands))
      (among_wire_ands d x a b _ e f low high refl) g

  for_field : (a b : ℕ) → a ≡ start d macrocell_settings → b ≡ start d block_settings → a ≤ x → x < b
      → o ≡ located_bit d (in_group d macrocell_settings (x - a)) bit → o ≡ located_by_number d x bit
  for_field a b e f low high g =
      for_setting d x bit o k (in_group d macrocell_settings (x - a)) (omega (arith, ends d macrocell_settings))
      (among_macrocells d x a b _ e f low high refl) g

pub returns-in-Some : goal.returns-in-Some
returns-in-Some c =
    rw (← c.in-Ok.ensures, ← c.in-Some.ensures.0, ← c.in-Some.ensures.1) (search (rules, for_literal))

pub returns-then-x-macrocells : goal.returns-then-x-macrocells
returns-then-x-macrocells c = rw (← c.in-Ok.ensures) (search (rules, for_wire_and))

pub returns-then-x-blocks : goal.returns-then-x-blocks
returns-then-x-blocks c = rw (← c.in-Ok.ensures) (search (rules, for_field))
