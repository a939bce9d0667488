-- `put` meets its contract: the bytes are copied.
-- Assumes nothing.
use Rattle.report_lines.proofs.PutBytes.{copied}
use Rattle.report_lines.proofs.lines.put.Goals as goal

pub returns : goal.returns
returns c = copied _ _ _ _ c.copy_from_slice.ensures.after c.requires
