-- `put_word` meets its contract: the lines so far and those of the ones that are left are all.
-- Assumes nothing.
use mathlib.Core.Path.{◌≡◌}
use Prim.Native.Nat.{◌^◌, ◌<◌}
use lib.ListN.{length}
use Rattle.part.specs.Device.{fuse_count}
use Rattle.differences.specs.Scan.{ones_from, AllBelow, lines_with}
use Rattle.differences.proofs.LaidText.{Going}
use Rattle.differences.proofs.scan.put_word.Given as goal

abbrev pub invariant-loop-left : goal.invariant-loop-left
invariant-loop-left l =
    (l.left < 2 ^ 64) × AllBelow (fuse_count l.part.device) (ones_from l.from l.left 64)
    × Going l.initial.out l.out l.at l.end (lines_with l.part.device l.from l.states (ones_from l.from l.left 64))
    (lines_with l.part.device l.from l.states (ones_from l.from l.x 64)) l.next × (length l.out ≡ length l.initial.out)

abbrev pub decreases-loop-left : goal.decreases-loop-left
decreases-loop-left l = length (ones_from l.from l.left 64)
