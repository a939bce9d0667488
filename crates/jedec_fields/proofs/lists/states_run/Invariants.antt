-- `states_run` meets its contract: the states counted over the first bytes, and few of them told as bits.
-- Assumes nothing.
use Prim.Native.Nat.{◌-◌}
use lib.ListN.{length}
use Rattle.jedec_fields.proofs.StatesCounted.{StatesCounted}
use Rattle.jedec_fields.proofs.lists.states_run.Given as goal

abbrev pub invariant-loop-run : goal.invariant-loop-run
invariant-loop-run l = StatesCounted l.bytes l.run

abbrev pub decreases-loop-run : goal.decreases-loop-run
decreases-loop-run l = length l.bytes - l.run.length
