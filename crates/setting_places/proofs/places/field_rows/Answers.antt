-- `field_rows` meets its contract: the table is that of the definition, by one test over all fields.
-- Assumes nothing.
use mathlib.Core.Path.{◌≡◌, refl}
use mathlib.Core.Bool.{Bool, true}
use Prim.Native.Nat.{ℕ, ◌<◌}
use lib.Dec.{eqb}
use lib.ListN.{get_or}
use borrow.Author.Tests.{eqb-true}
use Rattle.part.proofs.Tables.{all_below, below_all}
use Rattle.settings.specs.Fields.{macrocell_fields}
use Rattle.settings.specs.Order.{macrocell_field_at}
use Rattle.settings.specs.declared.MacrocellField.{MacrocellField}
use Rattle.setting_places.specs.Places.{first_row, rows}
use Rattle.setting_places.specs.declared.places.TheConstants.{FIELD_ROWS}
use Rattle.setting_places.proofs.places.field_rows.Goals as goal

-- A part of the table's entry for a field is what the definition says.
abbrev right : (ℕ × ℕ → ℕ) → (MacrocellField → ℕ) → ℕ × ℕ → ℕ → Bool
right part said past i = eqb (part (get_or FIELD_ROWS i past)) (said (macrocell_field_at i))

in_table : (part : ℕ × ℕ → ℕ) (said : MacrocellField → ℕ) (past : ℕ × ℕ) (i : ℕ) → i < macrocell_fields
    → all_below (right part said past) macrocell_fields ≡ true → part (get_or FIELD_ROWS i past) ≡ said (macrocell_field_at i)
in_table part said past i h all = eqb-true _ _ (below_all (right part said past) macrocell_fields all i h)

pub returns-clause-first : goal.returns-clause-first
returns-clause-first c = in_table (λ x. x.0) first_row _ _ c.requires refl

pub returns-clause-count : goal.returns-clause-count
returns-clause-count c = in_table (λ x. x.1) rows _ _ c.requires refl
