-- The numbers of the settings: number and setting are inverse, and the numbers are those below the count.
-- Stated once for every device.
use mathlib.Core.Path.{◌≡◌, refl, ◌∙◌, ap, subst}
use mathlib.Core.Bool.{true}
use mathlib.Core.List.{List}
use Prim.Native.Nat.{ℕ, ◌+◌, ◌-◌, ◌<◌, ◌≤◌}
use native.Mathlib.Omega.{arith}
use borrow.Author.Tests.{lt-ltb, le-ltb, ltb-true}
use Rattle.part.specs.declared.Device.{Device}
use Rattle.part.proofs.Facts.{compared, tests}
use Rattle.settings.specs.Fields.{polarity_index}
use Rattle.settings.specs.Settings.{has_setting}
use Rattle.settings.specs.Order.{Group, group, indices, bounds, position, at, size, start, count_of, number_of}
use Rattle.settings.specs.Order.{from_indices, in_group, setting_of}
use Rattle.settings.specs.Order.Group.{literals, wire_ands, macrocell_settings, block_settings, globals}
use Rattle.settings.specs.declared.Polarity.{Polarity}
use Rattle.settings.specs.declared.Polarity.TheVariants.{P, N}
use Rattle.settings.specs.declared.Setting.{Setting}
use Rattle.settings.specs.declared.Setting.TheVariants.{Literal, WireAnd, Macrocell, Block, Global}
use Rattle.settings.proofs.Order.{Within, position_below, at_position, at_within, position_at}
use Rattle.settings.proofs.Order.Within.{nil, more}
use Rattle.settings.proofs.FieldIndices.{polarity_index_lem, polarity_at_lem, macrocell_index_lem, macrocell_at}
use Rattle.settings.proofs.FieldIndices.{block_index_lem, block_at, global_index_lem, global_at}

-- The indices of a setting that the device has are within the bounds of its group.
pub within : (d : Device) (s : Setting) → has_setting d s ≡ true → Within (bounds d (group s)) (indices d s)
unfolding has_setting
within d (Literal block j k l polarity) h =
    let facts = simp tests at h in
    more facts.0.0.0 (more facts.0.0.1 (more facts.0.1 (more facts.1 (more (two polarity) nil))))
  where
    two : (p : Polarity) → polarity_index p < 2
    two P = omega arith
    two N = omega arith
within d (WireAnd i j k l) h =
    let facts = simp tests at h in more facts.0.0.0 (more facts.0.0.1 (more facts.0.1 (more facts.1 nil)))
within d (Macrocell block m field) h =
    let facts = simp tests at h in more facts.0.0 (more facts.0.1 (more facts.1 nil))
within d (Block block field) h = more (ltb-true _ _ h) (more (block_at field).0 nil)
within d (Global field) h = more (ltb-true _ _ h) nil

-- They give the setting.
from_indices_lem : (d : Device) (s : Setting) → has_setting d s ≡ true → from_indices d (group s) (indices d s) ≡ s
unfolding has_setting
from_indices_lem d (Literal block j k l polarity) h = rw (polarity_at_lem polarity)
from_indices_lem d (WireAnd i j k l) h = refl
from_indices_lem d (Macrocell block m field) h = let facts = simp tests at h in rw (macrocell_at field facts.1)
from_indices_lem d (Block block field) h = rw (block_at field).1
from_indices_lem d (Global field) h = rw (global_at d field (ltb-true _ _ h))

less : (s p : ℕ) → s + p - s ≡ p
less s p = omega arith

-- The groups follow one another: a number that is in one is not in those before it.
pub ends : (d : Device) (g : Group) → start d g + size d g ≤ count_of d
unfolding count_of
ends d literals = omega arith
ends d wire_ands = omega arith
ends d macrocell_settings = omega arith
ends d block_settings = omega arith
ends d globals = omega arith

pub setting_in_group : (d : Device) (g : Group) (p : ℕ) → p < size d g → setting_of d (start d g + p) ≡ in_group d g p
unfolding setting_of
setting_in_group d literals p h = rw (lt-ltb (0 + p) (size d literals) (omega arith), less 0 p)
setting_in_group d wire_ands p h =
    rw (
      le-ltb (start d wire_ands + p) (start d wire_ands) (omega arith),
      lt-ltb (start d wire_ands + p) (start d macrocell_settings) (omega arith),
      less (start d wire_ands) p,
    )
setting_in_group d macrocell_settings p h =
    rw (
      le-ltb (start d macrocell_settings + p) (start d wire_ands) (omega arith),
      le-ltb (start d macrocell_settings + p) (start d macrocell_settings) (omega arith),
      lt-ltb (start d macrocell_settings + p) (start d block_settings) (omega arith),
      less (start d macrocell_settings) p,
    )
setting_in_group d block_settings p h =
    rw (
      le-ltb (start d block_settings + p) (start d wire_ands) (omega arith),
      le-ltb (start d block_settings + p) (start d macrocell_settings) (omega arith),
      le-ltb (start d block_settings + p) (start d block_settings) (omega arith),
      lt-ltb (start d block_settings + p) (start d globals) (omega arith),
      less (start d block_settings) p,
    )
setting_in_group d globals p h =
    rw (
      le-ltb (start d globals + p) (start d wire_ands) (omega arith),
      le-ltb (start d globals + p) (start d macrocell_settings) (omega arith),
      le-ltb (start d globals + p) (start d block_settings) (omega arith),
      le-ltb (start d globals + p) (start d globals) (omega arith),
      less (start d globals) p,
    )

-- Every number below the count is in one.
pub by_group : (d : Device) (Q : ℕ → Type 0) → ((g : Group) (p : ℕ) → p < size d g → Q (start d g + p)) → (x : ℕ) → x < count_of d → Q x
unfolding count_of
by_group d Q each x h =
    compared x (start d wire_ands) (λ l. in_one literals (past (omega arith) (omega arith)))
    (λ g1. compared x (start d macrocell_settings) (λ l. in_one wire_ands (past g1 l))
    (λ g2. compared x (start d block_settings) (λ l. in_one macrocell_settings (past g2 l))
    (λ g3. compared x (start d globals) (λ l. in_one block_settings (past g3 l)) (λ g4. in_one globals (past g4 h)))))
  where
    in_one : (g : Group) → (start d g ≤ x) × (x < start d g + size d g) → Q x
    in_one g (low, high) = subst Q (back low) (each g (x - start d g) (omega arith))
      where
        back : start d g ≤ x → start d g + (x - start d g) ≡ x
        back l = omega arith

    past : {a b : ℕ} → a ≤ x → x < b → (a ≤ x) × (x < b)
    past l m = (l, m)

-- The setting at a position of a group has the indices of that position, and the device has it.
abbrev Right : Device → Group → List ℕ → Type 0
Right d g xs =
    (has_setting d (from_indices d g xs) ≡ true) × (group (from_indices d g xs) ≡ g) × (indices d (from_indices d g xs) ≡ xs)

right : (d : Device) (g : Group) (xs : List ℕ) → Within (bounds d g) xs → Right d g xs
unfolding has_setting
right d literals _ (more {x = i} hi (more {x = j} hj (more {x = k} hk (more {x = l} hl (more {x = p} hp nil))))) =
    (simp tests (((hi, hj), hk), hl), refl, rw (polarity_index_lem p hp))
right d wire_ands _ (more {x = i} hi (more {x = j} hj (more {x = k} hk (more {x = l} hl nil)))) =
    (simp tests (((hi, hj), hk), hl), refl, refl)
right d macrocell_settings _ (more {x = i} hi (more {x = m} hm (more {x = f} hf nil))) =
    let same = macrocell_index_lem f hf in (rw same (simp tests ((hi, hm), hf)), refl, rw same)
right d block_settings _ (more {x = i} hi (more {x = f} hf nil)) = (lt-ltb i _ hi, refl, rw (block_index_lem f hf))
right d globals _ (more {x = f} hf nil) = let same = global_index_lem d f hf in (rw same (lt-ltb f _ hf), refl, rw same)

-- Number to setting and back.
pub number_below : (d : Device) (s : Setting) → has_setting d s ≡ true → number_of d s < count_of d
unfolding number_of
number_below d s h = omega (arith, ends d (group s), position_below (within d s h))

pub setting_inverse : (d : Device) (s : Setting) → has_setting d s ≡ true → setting_of d (number_of d s) ≡ s
unfolding number_of
setting_inverse d s h =
    let w = within d s h in
    setting_in_group d (group s) (position (bounds d (group s)) (indices d s)) (position_below w)
    ∙ ap (from_indices d (group s)) (at_position w)
    ∙ from_indices_lem d s h

-- The device has the setting of a number, and that is its number.
abbrev Inverse : Device → ℕ → Type 0
Inverse d x = (has_setting d (setting_of d x) ≡ true) × (number_of d (setting_of d x) ≡ x)

pub number_inverse : (d : Device) (x : ℕ) → x < count_of d → Inverse d x
unfolding number_of
number_inverse d x h = by_group d (Inverse d) each x h
  where
    each : (g : Group) (p : ℕ) → p < size d g → Inverse d (start d g + p)
    each g p l =
        let there = right d g (at (bounds d g) p) (at_within (bounds d g) p l) in
        rw (setting_in_group d g p l) (there.0, place there.1 there.2)
      where
        place : group (in_group d g p) ≡ g → indices d (in_group d g p) ≡ at (bounds d g) p → number_of d (in_group d g p) ≡ start d g + p
        place e f = rw (e, f, position_at (bounds d g) p l)
