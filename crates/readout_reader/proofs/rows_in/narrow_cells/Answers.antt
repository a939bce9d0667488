-- `narrow_cells` meets its contract: the word put together is what the cells join to.
-- Assumes nothing.
use mathlib.Core.Path.{refl}
use native.Mathlib.Omega.{arith}
use lib.ListN.{replicate}
use Rattle.readout_reader.proofs.Fields.{narrow, packed_at}
use Rattle.readout_reader.proofs.rows_in.narrow_cells.Goals as goal

pub returns : goal.returns
unfolding narrow
returns c =
    packed_at (replicate 6 6) c.args.row.now 9 2 _ _ refl (omega arith) (omega arith) (omega (arith, c.requires)) c.word8.ensures
    c.six_together.ensures
