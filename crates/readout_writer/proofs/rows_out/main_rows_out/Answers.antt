-- `main_rows_out` meets its contract: the second of two main rows starts in the middle of a byte.
-- Assumes nothing.
use borrow.Author.Rules.{rules}
use Rattle.readout_writer.proofs.RowsOut.{main_rows_lem}
use Rattle.readout_writer.proofs.rows_out.main_rows_out.Goals as goal

pub returns : goal.returns
returns c = search (rules, main_rows_lem)
