-- `wire_and_rows_out` meets its contract: the second of two wire-AND rows starts in the middle of a byte.
-- Assumes nothing.
use borrow.Author.Rules.{rules}
use Rattle.readout_writer.proofs.RowsOut.{wire_and_rows_lem}
use Rattle.readout_writer.proofs.rows_out.wire_and_rows_out.Goals as goal

pub returns : goal.returns
returns c = search (rules, wire_and_rows_lem)
