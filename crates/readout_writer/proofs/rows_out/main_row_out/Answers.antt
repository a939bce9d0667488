-- `main_row_out` meets its contract: three words, cut into 9 bytes of 8 bits and 6 of 6.
-- Assumes nothing.
use borrow.Author.Rules.{rules}
use Rattle.readout_writer.proofs.RowsOut.{main_row_filled}
use Rattle.readout_writer.proofs.rows_out.main_row_out.Goals as goal

pub returns : goal.returns
returns c = search (rules, main_row_filled)
