-- `sum_in` meets its contract: the number that the digits so far wrote, and the digits still to come.
-- Assumes nothing.
use Rattle.jedec.specs.Characters.{hex_value}
use Rattle.jedec_judge.proofs.DigitsRead.{Reading}
use Rattle.jedec_judge.proofs.digits.sum_in.Given as goal

abbrev pub invariant-loop-b : goal.invariant-loop-b
invariant-loop-b l = Reading 16 hex_value l.bytes l.sum l.b-index
