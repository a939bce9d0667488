-- `leading_digits` meets its contract: the number that the digits so far write.
-- Assumes nothing.
use native.Mathlib.Omega.{arith}
use borrow.Author.Rules.{rules}
use Rattle.jedec_judge.proofs.Numbers.{leads_start, leads_on}
use Rattle.jedec_judge.proofs.digits.leading_digits.Goals as goal

pub loop-i-init : goal.loop-i-init
loop-i-init c = search (rules, leads_start)

pub loop-i-preserved : goal.loop-i-preserved
loop-i-preserved c = leads_on _ _ _ c.loop-i.invariant _ c.in-Some.ensures (omega arith) (omega arith)
