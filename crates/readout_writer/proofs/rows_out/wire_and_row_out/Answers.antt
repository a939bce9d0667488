-- `wire_and_row_out` meets its contract: one word, cut into a byte of 8 bits and 4 of 7.
-- Assumes nothing.
use borrow.Author.Rules.{rules}
use Rattle.readout_writer.proofs.RowsOut.{wire_and_row_filled}
use Rattle.readout_writer.proofs.rows_out.wire_and_row_out.Goals as goal

pub returns : goal.returns
returns c = search (rules, wire_and_row_filled)
