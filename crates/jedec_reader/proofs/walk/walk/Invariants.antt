-- `walk` meets its contract: what the fields so far gave, and the fields still to come.
-- Assumes nothing.
use Prim.Native.Nat.{◌-◌}
use lib.ListN.{length}
use Rattle.jedec_reader.proofs.Walks.{Walks}
use Rattle.jedec_reader.proofs.walk.walk.Given as goal

abbrev pub invariant-loop-next : goal.invariant-loop-next
invariant-loop-next l = Walks l.fuses l.text.bytes.now l.from l.initial.image l.image l.p l.at

abbrev pub decreases-loop-next : goal.decreases-loop-next
decreases-loop-next l = length l.text.bytes.now - l.at
