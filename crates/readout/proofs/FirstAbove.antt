-- Refusal 6: the scan of a readout by the list of widths finds the lowest index of a byte that has a bit above its width.
-- Assumes nothing.
use mathlib.Core.Path.{◌≡◌, subst}
use mathlib.Core.Bool.{true}
use mathlib.Core.List.{List}
use Prim.Native.Nat.{ℕ, ◌/◌, ◌^◌, ◌≤◌, ◌<◌}
use native.Mathlib.Omega.{arith}
use native.Mathlib.Nat.{zero-add, zero-mul, div-eq_of_lt, mod-lt}
use lib.ListN.{get_or}
use lib.Pow.{pow_pos, split}
use borrow.Author.Tests.{lt-leb, le-leb}
use Rattle.part.specs.Device.{known, readout_bytes}
use Rattle.part.specs.declared.Device.{Device}
use Rattle.part.specs.Lowest.{lowest}
use Rattle.part.proofs.Facts.{compared}
use Rattle.part.proofs.Lowest.{lowest_iff}
use Rattle.readout_rows.specs.Widths.{widths, cells_within}
use Rattle.readout_rows.proofs.CellsWithin.{within_le, within_before, above_at_lem}
use Rattle.readout.specs.Readout.{width_at, above_at}
use Rattle.readout.proofs.Widths.{widths_at, widths_length}

-- The scan by the list of widths finds it.
pub first_above_lem : (d : Device) (readout : List ℕ) → known d ≡ true
    → lowest (above_at d readout) (readout_bytes d) ≡ cells_within (widths d) readout
unfolding above_at
first_above_lem d readout k =
    let size = widths_length d k in
    let n = cells_within (widths d) readout in
    let le : n ≤ readout_bytes d = rw size at (within_le (widths d) readout) in
    (lowest_iff (above_at d readout) (readout_bytes d) n).1
    (record {
      at_most = le;
      lower_fail = λ i h.
          let width : get_or (widths d) i 0 ≡ width_at d i = (widths_at d i (omega arith)).0 in
          let zero_there : get_or readout i 0 / 2 ^ width_at d i ≡ 0 = rw width at (within_before (widths d) readout i h) in
          lt-leb (2 ^ width_at d i) (get_or readout i 0) (within _ _ zero_there);
      passes = λ h.
          let width : get_or (widths d) n 0 ≡ width_at d n = (widths_at d n h).0 in
          le-leb (2 ^ width_at d n) (get_or readout n 0)
          (compared (get_or readout n 0) (2 ^ width_at d n)
          (λ less. absurd (above_at_lem (widths d) readout (rw size h) (rw width (div-eq_of_lt less))))
          (λ more. more));
    })
  where
    within : (x w : ℕ) → x / 2 ^ w ≡ 0 → x < 2 ^ w
    within x w e = subst (λ (y : ℕ). y < 2 ^ w) (rw (e, zero-mul, zero-add) at (split x w)) (mod-lt x (pow_pos w))
