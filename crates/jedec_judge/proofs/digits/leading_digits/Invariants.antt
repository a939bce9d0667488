-- `leading_digits` meets its contract: the number that the digits so far write.
-- Assumes nothing.
use Rattle.jedec_judge.proofs.Numbers.{Leads}
use Rattle.jedec_judge.proofs.digits.leading_digits.Given as goal

abbrev pub invariant-loop-i : goal.invariant-loop-i
invariant-loop-i l = Leads l.bytes l.value l.i
