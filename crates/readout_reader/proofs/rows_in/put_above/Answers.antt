-- `put_above` meets its contract: the shift loses nothing of so small a number.
-- Assumes nothing.
use borrow.Author.Rules.{rules}
use Rattle.readout_reader.proofs.Carried.{stored}
use Rattle.readout_reader.proofs.rows_in.put_above.Goals as goal

pub returns-clause-image_after : goal.returns-clause-image_after
returns-clause-image_after c = search (rules, stored)
