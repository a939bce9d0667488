-- `count_of` meets its contract: all groups are added up.
-- Assumes nothing.
use native.Mathlib.Omega.{arith}
use Rattle.settings.specs.Order.{count_of}
use Rattle.settings.specs.Order.Group.{globals}
use Rattle.settings.proofs.Numbering.{ends}
use Rattle.settings.proofs.CodeNumbers.{count_small}
use Rattle.settings.proofs.numbers.count_of.Goals as goal

pub overflow_add-result : goal.overflow_add-result
overflow_add-result c =
    rw (c.global_fields.ensures, c.start_of_globals.ensures)
    (omega (arith, ends c.args.d.device globals, count_small c.args.d.device c.args.d.is_known))

pub returns : goal.returns
unfolding count_of
returns c = rw (c.global_fields.ensures, c.start_of_globals.ensures) (omega arith)
