-- `text_out` meets its contract: the head, the lines, the foot, and the sum of all these.
-- Assumes nothing.
use Rattle.std.proofs.Common.{arith, sym, length-take-le}
use Rattle.jedec_writer.proofs.TextParts.{text_parts, text_of_lem}
use Rattle.jedec_writer.proofs.text.text_out.Goals as goal

pub head_out-lines-requires : goal.head_out-lines-requires
head_out-lines-requires c = omega (arith, text_parts c.args.image.part.device, c.requires)

pub blocks_out-foot-requires : goal.blocks_out-foot-requires
blocks_out-foot-requires c =
    omega (arith, text_parts c.args.image.part.device, c.requires, c.head_out-lines.ensures.behind)

pub foot_out-end-requires : goal.foot_out-end-requires
foot_out-end-requires c =
    omega (arith, text_parts c.args.image.part.device, c.requires, c.head_out-lines.ensures.behind, c.blocks_out-foot.ensures.behind)

pub slice_bounds-sum_of-end : goal.slice_bounds-sum_of-end
slice_bounds-sum_of-end c =
    omega (arith, text_parts c.args.image.part.device, c.requires, c.head_out-lines.ensures.behind, c.blocks_out-foot.ensures.behind)

pub slice_bounds-sum_of-end-2 : goal.slice_bounds-sum_of-end-2
slice_bounds-sum_of-end-2 c =
    sym (length-take-le _ _
    (omega (arith, text_parts c.args.image.part.device, c.requires, c.head_out-lines.ensures.behind, c.blocks_out-foot.ensures.behind)))

pub put_cells-requires : goal.put_cells-requires
put_cells-requires c =
    omega (
      arith,
      text_parts c.args.image.part.device,
      c.requires,
      c.head_out-lines.ensures.behind,
      c.blocks_out-foot.ensures.behind,
      c.foot_out-end.ensures.behind,
    )

pub returns : goal.returns
returns c =
    text_of_lem c.args.image.part.device _ _ _ _ _ _ _ _ _ _ _ _ c.requires c.head_out-lines.ensures.stored c.head_out-lines.ensures.behind
    c.blocks_out-foot.ensures.stored c.blocks_out-foot.ensures.behind c.sum_of.ensures c.foot_out-end.ensures.stored
    c.foot_out-end.ensures.behind c.sum_of-sum.ensures c.four_hex.ensures c.put_cells.ensures
