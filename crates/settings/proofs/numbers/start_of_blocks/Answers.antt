-- `start_of_blocks` meets its contract: the groups before it are added up.
-- Assumes nothing.
use native.Mathlib.Omega.{arith}
use Rattle.settings.specs.Order.Group.{macrocell_settings}
use Rattle.settings.proofs.Numbering.{ends}
use Rattle.settings.proofs.CodeNumbers.{count_small}
use Rattle.settings.proofs.numbers.start_of_blocks.Goals as goal

pub overflow_add-result : goal.overflow_add-result
overflow_add-result c =
    rw (c.blocks-2.ensures, c.start_of_macrocells.ensures)
    (omega (arith, ends c.args.d.device macrocell_settings, count_small c.args.d.device c.args.d.is_known))
