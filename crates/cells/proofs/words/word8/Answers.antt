-- `word8` meets its contract: each byte counts 256 times as much as the one before it.
-- Assumes nothing.
use Rattle.cells.proofs.Laws.{join_eight}
use Rattle.cells.proofs.words.word8.Goals as goal

pub returns : goal.returns
returns c = join_eight c.args.bytes.now c.args.at c.type_inv.bytes _ c.from_le_bytes.ensures
