-- `put_states` meets its contract: what is stored, with the new low bits of one byte, and the states still to come.
-- Assumes nothing.
use Prim.Native.Nat.{◌-◌}
use lib.ListN.{length}
use Rattle.jedec_image.proofs.StatesPut.{Puts}
use Rattle.jedec_image.proofs.states.put_states.Given as goal

abbrev pub invariant-loop-i : goal.invariant-loop-i
invariant-loop-i l = Puts l.bytes l.initial.image l.fuse l.image l.index l.bit l.low l.i

abbrev pub decreases-loop-i : goal.decreases-loop-i
decreases-loop-i l = length l.bytes - l.i
