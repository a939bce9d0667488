-- `rows_out` meets its contract: the rows so far are put.
-- Assumes nothing.
use borrow.Author.Rules.{rules}
use Rattle.jedec_writer.proofs.Lines.{none_lined, next_room, next_lined}
use Rattle.jedec_writer.proofs.text.rows_out.Goals as goal

pub loop-row-init : goal.loop-row-init
loop-row-init c = search (rules, none_lined)

pub row_out-next-requires : goal.row_out-next-requires
row_out-next-requires c = search (rules, next_room)

pub loop-row-preserved : goal.loop-row-preserved
loop-row-preserved c = search (rules, next_lined)
