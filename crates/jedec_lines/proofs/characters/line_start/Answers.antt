-- `line_start` meets its contract: six digits in twos, by products, and each two taken apart.
-- Assumes nothing.
use Rattle.jedec_lines.proofs.FuseDigits.{tens_small, start_by_products}
use Rattle.jedec_lines.proofs.characters.line_start.Goals as goal

pub overflow_sub-result : goal.overflow_sub-result
overflow_sub-result c =
    tens_small c.args.fuse _ _ c.requires c.low_bits-next.ensures c.low_bits-last.ensures

pub returns : goal.returns
returns c =
    start_by_products c.args.fuse _ _ c.requires c.low_bits-next.ensures c.low_bits-last.ensures
