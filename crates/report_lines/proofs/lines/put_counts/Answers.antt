-- `put_counts` meets its contract: four lines, one after another.
-- Assumes nothing.
use Rattle.report_lines.proofs.PutBytes.{four_lines}
use Rattle.report_lines.proofs.lines.put_counts.Goals as goal

pub returns : goal.returns
returns c =
    four_lines _ _ _ _ _ _ _ _ _ _ _ _ _ _ _ c.put_line-one.ensures.0 c.blocks-2.ensures
    c.put_line-two.ensures.0 c.fuse_count.ensures c.put_line-three.ensures.0
    c.zeros_in.ensures c.put_sum.ensures c.sum_of.ensures
