-- `blocks_out` meets its contract: the blocks so far are put.
-- Assumes nothing.
use Rattle.cells.specs.Cells.{repeat}
use Rattle.jedec_writer.specs.Pattern.{block_lines}
use Rattle.jedec_writer.specs.Spots.{Lined}
use Rattle.jedec_writer.proofs.Sizes.{first_spot}
use Rattle.jedec_writer.proofs.text.blocks_out.Given as goal

abbrev pub invariant-loop-block : goal.invariant-loop-block
invariant-loop-block l =
    Lined (repeat l.block (block_lines l.image.part.device)) l.image.bytes.now l.initial.out l.out (first_spot l.at) l.next
