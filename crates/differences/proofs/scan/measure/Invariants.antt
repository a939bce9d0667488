-- `measure` meets its contract: what is counted so far and what is to come are all.
-- Assumes nothing.
use mathlib.Core.Path.{◌≡◌}
use Prim.Native.Nat.{◌+◌, ◌*◌, ◌-◌, ◌≤◌}
use lib.ListN.{length}
use Rattle.differences.specs.Differences.{differing_fuses}
use Rattle.differences.specs.Scan.{lines_bytes, differing_from}
use Rattle.differences.proofs.scan.measure.Given as goal

abbrev pub invariant-loop-at : goal.invariant-loop-at
invariant-loop-at l =
    let all = differing_fuses l.part.device l.old l.new in
    let rest = differing_from l.old l.new l.at in
    (l.at ≤ length l.old + 8) × (length l.old ≤ 36288) × (l.fuses + length rest ≡ length all)
    × (l.bytes + lines_bytes l.part.device rest ≡ lines_bytes l.part.device all) × (l.bytes ≤ 512 * l.at)

abbrev pub decreases-loop-at : goal.decreases-loop-at
decreases-loop-at l = length l.old + 8 - l.at
