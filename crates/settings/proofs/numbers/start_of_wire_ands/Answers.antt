-- `start_of_wire_ands` meets its contract: the literals come before it.
-- Assumes nothing.
use native.Mathlib.Omega.{arith}
use Rattle.settings.specs.Order.Group.{literals}
use Rattle.settings.proofs.Numbering.{ends}
use Rattle.settings.proofs.CodeNumbers.{count_small}
use Rattle.settings.proofs.numbers.start_of_wire_ands.Goals as goal

pub overflow_mul-result : goal.overflow_mul-result
overflow_mul-result c =
    rw c.blocks-2.ensures (omega (arith, ends c.args.d.device literals, count_small c.args.d.device c.args.d.is_known))
