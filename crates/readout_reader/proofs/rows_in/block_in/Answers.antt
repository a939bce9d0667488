-- `block_in` meets its contract: the pairs of main rows, and the pairs of wire-AND rows behind them.
-- Assumes nothing.
use Rattle.std.proofs.Common.{refl, arith, rules}
use Rattle.part.specs.declared.Area.TheVariants.{Main, WireAnd}
use Rattle.readout_rows.proofs.RowSizes.{block_size, block_whole, main_pair, wire_and_pair}
use Rattle.readout_reader.proofs.RowsIn.{block_of_pairs}
use Rattle.readout_reader.proofs.rows_in.block_in.Goals as goal

pub split_at-requires : goal.split_at-requires
split_at-requires c = omega (arith, c.requires, block_size c.args.part.device)

pub split_at_mut-main_image-requires : goal.split_at_mut-main_image-requires
split_at_mut-main_image-requires c = omega (arith, c.requires, block_whole c.args.part.device)

pub pairs_in-requires : goal.pairs_in-requires
pairs_in-requires c = (
  omega (arith, c.split_at.ensures.front_len, main_pair Main refl),
  omega (arith, c.split_at_mut-main_image.ensures.front_len, main_pair Main refl),
)

pub pairs_in-requires-2 : goal.pairs_in-requires-2
pairs_in-requires-2 c = rw ((wire_and_pair WireAnd refl).0, (wire_and_pair WireAnd refl).1) (
  omega (arith, c.split_at.ensures.back_len, c.requires, block_size c.args.part.device),
  omega (arith, c.split_at_mut-main_image.ensures.back_len, c.requires, block_whole c.args.part.device),
)

pub returns : goal.returns
returns c = search (rules, block_of_pairs)
