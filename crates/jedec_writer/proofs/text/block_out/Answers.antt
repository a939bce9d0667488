-- `block_out` meets its contract: the main rows, and the wire-AND rows behind them.
-- Assumes nothing.
use native.Mathlib.Omega.{arith}
use Rattle.part.proofs.Devices.{blocks_small}
use Rattle.jedec_writer.specs.Pattern.{block_lines}
use Rattle.jedec_writer.proofs.Lines.{room_first, room_behind, lined_append}
use Rattle.jedec_writer.proofs.text.block_out.Goals as goal

pub rows_out-behind_main-requires : goal.rows_out-behind_main-requires
unfolding block_lines
rows_out-behind_main-requires c = room_first _ c.requires

pub overflow_mul-rows : goal.overflow_mul-rows
overflow_mul-rows c = omega (arith, blocks_small c.args.image.part.device c.args.image.part.is_known)

pub rows_out-requires : goal.rows_out-requires
unfolding block_lines
rows_out-requires c = rw c.blocks-rows.ensures (room_behind c.requires c.rows_out-behind_main.ensures)

pub returns : goal.returns
unfolding block_lines
returns c = lined_append c.rows_out-behind_main.ensures (rw c.blocks-rows.ensures at c.rows_out.ensures)
