-- `blocks_out` meets its contract: the blocks so far are put.
-- Assumes nothing.
use borrow.Author.Rules.{rules}
use Rattle.jedec_writer.proofs.Lines.{none_lined, next_room, next_lined}
use Rattle.jedec_writer.proofs.Sizes.{pattern_room, pattern_lined}
use Rattle.jedec_writer.proofs.text.blocks_out.Goals as goal

pub loop-block-init : goal.loop-block-init
loop-block-init c = search (rules, none_lined)

pub block_out-next-requires : goal.block_out-next-requires
block_out-next-requires c = search (rules, next_room, pattern_room)

pub loop-block-preserved : goal.loop-block-preserved
loop-block-preserved c = search (rules, next_lined)

pub returns : goal.returns
returns c =
    let all = pattern_lined c.args.image.part.device _ _ _ _ _ _ _ c.loop-block.invariant c.loop-block.auto.block-end
    c.loop-block-test.false c.blocks-block-end.ensures in
    record { stored = all.stored; behind = all.byte_on }
