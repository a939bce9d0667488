-- `skip_fours` meets its contract: what differs from the index on is the same after each turn.
-- Assumes nothing.
use mathlib.Core.Path.{◌≡◌}
use Prim.Native.Nat.{◌+◌, ◌-◌, ◌≤◌}
use lib.ListN.{length}
use Rattle.differences.specs.Scan.{differing_from}
use Rattle.differences.proofs.words.skip_fours.Given as goal

abbrev pub invariant-loop-at : goal.invariant-loop-at
invariant-loop-at l = (differing_from l.old l.new l.from ≡ differing_from l.old l.new l.at) × (l.from ≤ l.at) × (l.at ≤ length l.old + 8)

abbrev pub decreases-loop-at : goal.decreases-loop-at
decreases-loop-at l = length l.old + 8 - l.at
