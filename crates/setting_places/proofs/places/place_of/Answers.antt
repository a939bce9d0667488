-- `place_of` meets its contract: each arm is the line of the definition for its group.
-- Assumes nothing.
use mathlib.Core.Path.{◌≡◌, ◌∙◌, ap}
use mathlib.Core.Bool.{true}
use Prim.Native.Nat.{ℕ, ◌+◌, ◌*◌, ◌/◌, ◌%◌, ◌<◌}
use native.Mathlib.Omega.{arith}
use Rattle.part.specs.declared.Device.{Device}
use Rattle.part.specs.declared.Place.{Place}
use Rattle.settings.specs.Fields.{macrocell_index}
use Rattle.settings.specs.Settings.{has_setting}
use Rattle.settings.specs.Order.{macrocell_field_at}
use Rattle.settings.specs.declared.Polarity.{Polarity}
use Rattle.settings.specs.declared.MacrocellField.{MacrocellField}
use Rattle.settings.specs.declared.Setting.{Setting}
use Rattle.settings.specs.declared.Setting.TheVariants.{Literal, WireAnd, Macrocell}
use Rattle.settings.proofs.CodeNumbers.{has_literal, has_macrocell, has_global}
use Rattle.settings.proofs.FieldIndices.{macrocell_at}
use Rattle.setting_places.specs.Places.{main, literal_row, first_row, rows, place_of, bits_of}
use Rattle.setting_places.proofs.OnePlaceEach.{on_row_at}
use borrow.Author.Rules.{rules}
use Rattle.setting_places.proofs.places.place_of.Goals as goal

at_literal : (s : Setting) (block j k l : ℕ) (p : Polarity) (bit row : ℕ) (r : Place) → s ≡ Literal block j k l p
    → row ≡ literal_row l p → r ≡ main block row (k + 5 * (j % 3)) (j / 3) → r ≡ place_of s bit
unfolding place_of
at_literal s block j k l p bit row r e f g = rw (e, ← f) g

at_wire_and : (s : Setting) (block j k l : ℕ) (bit : ℕ) (r : Place) → s ≡ WireAnd block j k l
    → r ≡ place_of (WireAnd block j k l) 0 → r ≡ place_of s bit
unfolding place_of
at_wire_and s block j k l bit r e g = rw e g

module _ (d : Device) (s : Setting) (block m : ℕ) (f : MacrocellField) (i : ℕ)
    (h : has_setting d s ≡ true) (e : s ≡ Macrocell block m f) (q : i ≡ macrocell_index f) where
  same : macrocell_field_at i ≡ f
  same = ap macrocell_field_at q ∙ macrocell_at f (has_macrocell d s h block m f e).2

  inside : (bit : ℕ) → bit < bits_of s → (i < 27) × (bit < rows (macrocell_field_at i))
  unfolding bits_of
  inside bit hb = (omega (arith, (has_macrocell d s h block m f e).2), rw same (rw e at hb))

  row_small : (first bit : ℕ) → first ≡ first_row (macrocell_field_at i) → bit < bits_of s → first + bit < 55
  row_small first bit g hb = let its = inside bit hb in rw g (on_row_at i bit its.0 its.1).up_to

  at_macrocell : (first bit : ℕ) (r : Place) → first ≡ first_row (macrocell_field_at i)
      → r ≡ main block (first + bit) (m % 9) (6 + m / 9) → r ≡ place_of s bit
  unfolding place_of
  at_macrocell first bit r g w = rw (e, ← ap first_row same, ← g) w

the_literal : (c : goal.In-Literal) → (c.in-Literal.term < 5) × (c.in-Literal.input < 36)
the_literal c =
    let there = has_literal c.args.there.device.device c.args.there.setting c.args.there.is_there _ _ _ _ _ c.in-Literal.is in
    (there.2, there.3)

pub literal_row-row-requires : goal.literal_row-row-requires
literal_row-row-requires c = (the_literal c).1

pub overflow_add-term : goal.overflow_add-term
overflow_add-term c = omega (
  arith,
  has_literal c.args.there.device.device c.args.there.setting c.args.there.is_there _ _ _ _ _ c.in-Literal.is,
)

pub field_rows-requires : goal.field_rows-requires
field_rows-requires c =
    (inside c.args.there.device.device c.args.there.setting _ _ _ c.index.result c.args.there.is_there c.in-Macrocell.is c.index.ensures
    c.args.bit c.requires).0

pub overflow_add-row : goal.overflow_add-row
overflow_add-row c = omega (
  arith,
  row_small c.args.there.device.device c.args.there.setting _ _ _ c.index.result c.args.there.is_there c.in-Macrocell.is
      c.index.ensures _ c.args.bit c.field_rows.ensures.first c.requires,
)

pub global_place-requires : goal.global_place-requires
unfolding bits_of
global_place-requires c = (
  has_global c.args.there.device.device c.args.there.setting c.args.there.is_there _
      c.in-Global.is,
  (rw c.in-Global.is at c.requires),
)

pub returns-in-Literal : goal.returns-in-Literal
returns-in-Literal c = search (rules, at_literal)

pub returns-in-WireAnd : goal.returns-in-WireAnd
returns-in-WireAnd c = search (rules, at_wire_and)

pub returns-in-Macrocell : goal.returns-in-Macrocell
returns-in-Macrocell c = search (rules, at_macrocell)

pub returns-in-Block : goal.returns-in-Block
unfolding place_of
returns-in-Block c = rw c.in-Block.is c.block_place.ensures

pub returns-in-Global : goal.returns-in-Global
unfolding place_of
returns-in-Global c = rw c.in-Global.is c.global_place.ensures
