-- `place_of_literal` meets its contract: the literals have the first numbers, and the terms of a block run through its columns.
-- Assumes nothing.
use mathlib.Core.Path.{◌≡◌, refl, sym, ◌∙◌, ap}
use mathlib.Core.Bool.{true}
use Prim.Native.Nat.{ℕ, ◌+◌, ◌*◌, ◌/◌, ◌%◌, ◌^◌, ◌<◌}
use native.Mathlib.Omega.{arith}
use Rattle.part.specs.Device.{known}
use Rattle.part.specs.declared.Device.{Device}
use Rattle.part.specs.declared.Place.{Place}
use Rattle.part.proofs.Devices.{blocks_small}
use Rattle.settings.specs.Order.{start, polarity_at, in_group, setting_of}
use Rattle.settings.specs.Order.Group.{literals, wire_ands}
use Rattle.settings.specs.declared.Polarity.{Polarity}
use Rattle.settings.specs.declared.Setting.{Setting}
use Rattle.settings.proofs.CodeNumbers.{whole}
use Rattle.settings.proofs.Among.{among_literals}
use Rattle.setting_places.specs.Places.{main, literal_row, place_of}
use borrow.Author.Rules.{rules}
use Rattle.setting_places.proofs.places.place_of_literal.Goals as goal

-- The indices that a number has, and the columns and bits of its terms.
module _ (x : ℕ) where
  block : x / 6480 ≡ x / 72 / 15 / 6
  block = omega arith

  column : x % 6480 % 360 / 72 + 5 * (x % 6480 / 360 % 3) ≡ x / 72 % 15
  column = omega arith

  bit : x % 6480 / 360 / 3 ≡ x / 72 / 15 % 6
  bit = omega arith

  in_term : x % 6480 % 360 % 72 ≡ x % 72
  in_term = omega arith

the_place : (d : Device) (x row : ℕ) (p : Polarity) (r : Place) → x < start d wire_ands → p ≡ polarity_at (x % 72 % 2)
    → row ≡ literal_row (x % 72 / 2) p → r ≡ main (x / 72 / 15 / 6) row (x / 72 % 15) (x / 72 / 15 % 6) → r ≡ place_of (setting_of d x) 0
unfolding place_of
the_place d x row p r l e f g =
    let same : place_of (in_group d literals x) 0 ≡ main (x / 72 / 15 / 6) row (x / 72 % 15) (x / 72 / 15 % 6) =
    rw (block x, column x, bit x, in_term x, whole (x % 72 % 2), ← e, ← f) in
    g ∙ sym same ∙ ap (λ (s : Setting). place_of s 0) (among_literals d x (start d wire_ands) 0 (in_group d literals x) refl l refl)

-- With what the code has found: the term of the number and what is left, its columns and its bits.
module _ (d : Device) (x : ℕ) (k : known d ≡ true) (l : x < start d wire_ands) where
  few : x < 103680
  few = omega (arith, blocks_small d k)

  term_quotient : x * 233017 / 2 ^ 24 ≡ x / 72
  term_quotient = omega (arith, few)

  module _ (t : ℕ) (e : t ≡ x / 72) where
    column_quotient : t * 4370 / 2 ^ 16 ≡ t / 15
    column_quotient = omega (arith, few)

    module _ (u : ℕ) (f : u ≡ t / 15) where
      bit_quotient : u * 43 / 2 ^ 8 ≡ u / 6
      bit_quotient = omega (arith, few)

      found : (i c b v row : ℕ) (p : Polarity) (r : Place) → i ≡ x % 72 → c ≡ t % 15 → b ≡ u / 6 → v ≡ u % 6 → p ≡ polarity_at (i % 2)
          → row ≡ literal_row (i / 2) p → r ≡ main b row c v → r ≡ place_of (setting_of d x) 0
      found i c b v row p r ei ec eb ev ep er g =
          the_place d x row p r l (rw (← ei) ep) (rw (← ei) er) (rw (← e, ← f, ← ec, ← eb, ← ev) g)

pub divided-terms-requires : goal.divided-terms-requires
divided-terms-requires c = search (rules, term_quotient)

pub divided-columns-requires : goal.divided-columns-requires
divided-columns-requires c = search (rules, column_quotient)

pub divided-bits-requires : goal.divided-bits-requires
divided-bits-requires c = search (rules, bit_quotient)

pub returns : goal.returns
returns c = search (rules, found)
