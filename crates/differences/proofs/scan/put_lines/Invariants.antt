-- `put_lines` meets its contract: the lines so far and those of what is to come are all.
-- Assumes nothing.
use mathlib.Core.Path.{◌≡◌}
use Prim.Native.Nat.{◌+◌, ◌-◌, ◌≤◌}
use lib.ListN.{length}
use Rattle.differences.specs.Differences.{differing_fuses, lines_of}
use Rattle.differences.specs.Scan.{differing_from}
use Rattle.differences.proofs.LaidText.{Going}
use Rattle.differences.proofs.scan.put_lines.Given as goal

abbrev pub invariant-loop-i : goal.invariant-loop-i
invariant-loop-i l =
    let all = lines_of l.part.device l.old l.new (differing_fuses l.part.device l.old l.new) in
    let rest = lines_of l.part.device l.old l.new (differing_from l.old l.new l.i) in
    (l.i ≤ length l.old + 8) × (length l.old ≤ 36288) × Going l.initial.out l.out l.at l.end rest all l.next
    × (length l.out ≡ length l.initial.out)

abbrev pub decreases-loop-i : goal.decreases-loop-i
decreases-loop-i l = length l.old + 8 - l.i
