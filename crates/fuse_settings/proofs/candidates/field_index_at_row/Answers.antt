-- `field_index_at_row` meets its contract: the table is that of the definition, by one test over all rows.
-- Assumes nothing.
use mathlib.Core.Path.{◌≡◌, refl, ◌∙◌, ap}
use Prim.Native.Nat.{ℕ, ◌+◌, ◌-◌, ◌<◌, ◌≤◌}
use native.Mathlib.Omega.{arith}
use lib.Dec.{eqb}
use lib.ListN.{get_or}
use borrow.Author.Rules.{rules}
use borrow.Author.Tests.{eqb-true}
use Rattle.part.proofs.Tables.{below_all}
use Rattle.fuse_settings.specs.Back.{last_up_to, field_index_at_row}
use Rattle.fuse_settings.specs.declared.candidates.TheConstants.{FIELD_INDEX_AT_ROW}
use Rattle.fuse_settings.proofs.candidates.field_index_at_row.Goals as goal

in_table : (row : ℕ) → 12 ≤ row → row < 55 → get_or FIELD_INDEX_AT_ROW (row - 12) 0 ≡ field_index_at_row row
unfolding field_index_at_row last_up_to
in_table row low high =
    let back : 12 + (row - 12) ≡ row = omega arith in
    eqb-true _ _ (below_all (λ i. eqb (get_or FIELD_INDEX_AT_ROW i 0) (field_index_at_row (12 + i))) 43 refl (row - 12) (omega arith))
    ∙ ap field_index_at_row back

pub returns : goal.returns
returns c = search (rules, in_table)
