-- `word_bytes` meets its contract: the bytes so far and those of the ones that are left are all.
-- Assumes nothing.
use mathlib.Core.Path.{◌≡◌}
use Prim.Native.Nat.{◌+◌, ◌*◌, ◌^◌, ◌≤◌, ◌<◌}
use lib.ListN.{length}
use Rattle.part.specs.Device.{fuse_count}
use Rattle.differences.specs.Scan.{ones_from, AllBelow, lines_bytes}
use Rattle.differences.proofs.scan.word_bytes.Given as goal

abbrev pub invariant-loop-left : goal.invariant-loop-left
invariant-loop-left l =
    let left = ones_from l.from l.left 64 in
    let bytes = lines_bytes l.part.device in
    (l.left < 2 ^ 64) × (l.bytes + bytes left ≡ bytes (ones_from l.from l.x 64)) × AllBelow (fuse_count l.part.device) left
    × (l.bytes + 64 * length left ≤ 4096)

abbrev pub decreases-loop-left : goal.decreases-loop-left
decreases-loop-left l = length (ones_from l.from l.left 64)
