-- `start_of_macrocells` meets its contract: the literals and the wire-ANDs come before it.
-- Assumes nothing.
use native.Mathlib.Omega.{arith}
use Rattle.settings.specs.Order.Group.{wire_ands}
use Rattle.settings.proofs.Numbering.{ends}
use Rattle.settings.proofs.CodeNumbers.{count_small}
use Rattle.settings.proofs.numbers.start_of_macrocells.Goals as goal

pub overflow_mul-result-3 : goal.overflow_mul-result-3
overflow_mul-result-3 c =
    rw c.blocks-n.ensures
    (omega (arith, ends c.args.d.device wire_ands, count_small c.args.d.device c.args.d.is_known))

pub overflow_add-result : goal.overflow_add-result
overflow_add-result c =
    rw (c.blocks-n.ensures, c.start_of_wire_ands.ensures)
    (omega (arith, ends c.args.d.device wire_ands, count_small c.args.d.device c.args.d.is_known))
