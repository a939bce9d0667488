-- The setting of a number, by the group among whose numbers it is: with the first number of the group, and of the next, as code has them.
-- Assumes nothing.
use mathlib.Core.Path.{◌≡◌, refl, sym, ◌∙◌, ap}
use mathlib.Core.Bool.{true}
use Prim.Native.Nat.{ℕ, ◌+◌, ◌-◌, ◌<◌, ◌≤◌}
use native.Mathlib.Omega.{arith}
use Rattle.part.specs.declared.Device.{Device}
use Rattle.settings.specs.Order.{Group, start, size, count_of, in_group, setting_of}
use Rattle.settings.specs.Order.Group.{literals, wire_ands, macrocell_settings, block_settings, globals}
use Rattle.settings.specs.Settings.{has_setting}
use Rattle.settings.specs.declared.Setting.{Setting}
use Rattle.settings.proofs.Numbering.{setting_in_group, number_inverse, ends}

among : (d : Device) (g : Group) (x a : ℕ) (r : Setting) → a ≡ start d g → a ≤ x → x < start d g + size d g → r ≡ in_group d g (x - a)
    → r ≡ setting_of d x
among d g x a r e low high h =
    let back : start d g + (x - a) ≡ x = omega arith in
    h ∙ sym (setting_in_group d g (x - a) (omega arith)) ∙ ap (setting_of d) back

module _ (d : Device) (x a b : ℕ) (r : Setting) where
  pub among_literals : a ≡ start d wire_ands → x < a → r ≡ in_group d literals x → r ≡ setting_of d x
  among_literals e high h =
      let same : x - 0 ≡ x = omega arith in among d literals x 0 r refl (omega arith) (omega arith) (rw same h)

  pub among_wire_ands : a ≡ start d wire_ands → b ≡ start d macrocell_settings → a ≤ x → x < b
      → r ≡ in_group d wire_ands (x - a) → r ≡ setting_of d x
  among_wire_ands e f low high h = among d wire_ands x a r e low (omega arith) h

  pub among_macrocells : a ≡ start d macrocell_settings → b ≡ start d block_settings → a ≤ x → x < b
      → r ≡ in_group d macrocell_settings (x - a)
      → r ≡ setting_of d x
  among_macrocells e f low high h = among d macrocell_settings x a r e low (omega arith) h

  pub among_blocks : a ≡ start d block_settings → b ≡ start d globals → a ≤ x → x < b → r ≡ in_group d block_settings (x - a)
      → r ≡ setting_of d x
  among_blocks e f low high h = among d block_settings x a r e low (omega arith) h

  pub among_globals : a ≡ start d globals → x < count_of d → a ≤ x → r ≡ in_group d globals (x - a) → r ≡ setting_of d x
  unfolding count_of
  among_globals e high low h = among d globals x a r e low (omega arith) h

-- The device has the setting at each position of a group.
pub has_in_group : (d : Device) (g : Group) (x : ℕ) → x < size d g → has_setting d (in_group d g x) ≡ true
has_in_group d g x h = rw (← setting_in_group d g x h) (number_inverse d (start d g + x) (omega (arith, ends d g))).0
