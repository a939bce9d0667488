-- `block_out` meets its contract: the pairs of main rows, and the pairs of wire-AND rows behind them.
-- Assumes nothing.
use Rattle.std.proofs.Common.{refl, arith, rules}
use Rattle.part.specs.declared.Area.TheVariants.{Main, WireAnd}
use Rattle.readout_rows.proofs.RowSizes.{block_size, block_whole, main_pair, wire_and_pair}
use Rattle.readout_writer.proofs.RowsOut.{block_of_pairs}
use Rattle.readout_writer.proofs.rows_out.block_out.Goals as goal

pub split_at-requires : goal.split_at-requires
split_at-requires c = omega (arith, c.requires, block_whole c.args.part.device)

pub split_at_mut-main_out-requires : goal.split_at_mut-main_out-requires
split_at_mut-main_out-requires c = omega (arith, c.requires, block_size c.args.part.device)

pub pairs_out-requires : goal.pairs_out-requires
pairs_out-requires c = (
  omega (arith, c.split_at.ensures.front_len, main_pair Main refl),
  omega (arith, c.split_at_mut-main_out.ensures.front_len, main_pair Main refl),
)

pub pairs_out-requires-2 : goal.pairs_out-requires-2
pairs_out-requires-2 c = rw ((wire_and_pair WireAnd refl).0, (wire_and_pair WireAnd refl).1) (
  omega (arith, c.split_at.ensures.back_len, c.requires, block_whole c.args.part.device),
  omega (arith, c.split_at_mut-main_out.ensures.back_len, c.requires, block_size c.args.part.device),
)

pub returns : goal.returns
returns c = search (rules, block_of_pairs)
