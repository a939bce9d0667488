-- `candidate_in_main` meets its contract: each branch rewrites with the tests that led there.
-- Assumes nothing.
use mathlib.Core.Path.{◌≡◌, ap}
use Prim.Native.Nat.{ℕ, ◌<◌, ◌≤◌}
use native.Mathlib.Omega.{arith}
use Rattle.settings.specs.Fields.{macrocell_fields}
use Rattle.settings.specs.Order.{macrocell_field_at}
use Rattle.setting_places.specs.Places.{first_row}
use Rattle.fuse_settings.specs.Back.{field_index_at_row, field_at_row}
use Rattle.fuse_settings.proofs.CandidateInverse.{at_row}
use Rattle.fuse_settings.proofs.candidates.candidate_in_main.Goals as goal

module _ (row i : ℕ) (e : i ≡ field_index_at_row row) where
  starts : 12 ≤ row → row < 55 → i < macrocell_fields
  starts low high = omega (arith, at_row row low high)

  first : (r : ℕ) → r ≡ first_row (macrocell_field_at i) → r ≡ first_row (field_at_row row)
  first r g = let same = ap first_row (ap macrocell_field_at e) in omega arith

  not_before : (r : ℕ) → r ≡ first_row (macrocell_field_at i) → 12 ≤ row → row < 55 → r ≤ row
  not_before r g low high = omega (arith, first r g, at_row row low high)

pub field_rows-first-requires : goal.field_rows-first-requires
field_rows-first-requires c =
    starts c.args.row _ c.field_index_at_row-index.ensures c.if-row-lt12.false
    c.if-row-lt55.true

pub overflow_sub-result-then-row-lt55 : goal.overflow_sub-result-then-row-lt55
overflow_sub-result-then-row-lt55 c =
    not_before c.args.row _ c.field_index_at_row-index.ensures _
    c.field_rows-first.ensures.first c.if-row-lt12.false c.if-row-lt55.true
