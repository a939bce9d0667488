-- `block_above` meets its contract: the main rows, and the wire-AND rows behind them.
-- Assumes nothing.
use Rattle.std.proofs.Common.{refl, arith, rules}
use Rattle.part.specs.declared.Area.TheVariants.{Main, WireAnd}
use Rattle.readout_rows.proofs.RowSizes.{main_length, wire_and_length, block_size}
use Rattle.readout_rows.proofs.RowsAbove.{block_in_main, block_in_wire_and, block_in_none, block_fits}
use Rattle.readout_rows.proofs.above_width.block_above.Goals as goal

pub split_at-requires : goal.split_at-requires
split_at-requires c = omega (arith, c.requires, block_size c.args.part.device)

pub rows_above-requires : goal.rows_above-requires
rows_above-requires c = omega (arith, c.split_at.ensures.front_len, main_length Main refl)

pub returns-in-Some : goal.returns-in-Some
returns-in-Some c = block_in_main _ _ _ c.requires c.split_at.ensures.front _ c.in-Some.ensures

pub rows_above-requires-2 : goal.rows_above-requires-2
rows_above-requires-2 c =
    rw (wire_and_length WireAnd refl) (omega (arith, c.split_at.ensures.back_len, c.requires, block_size c.args.part.device))

pub returns-in_err-rows_above : goal.returns-in_err-rows_above
returns-in_err-rows_above c = search (rules, block_in_none)

pub overflow_add-result : goal.overflow_add-result
overflow_add-result c =
    block_fits _ _ _ c.requires c.split_at.ensures.front _ c.split_at.ensures.back c.in_default.ensures _
    c.in_ok-rows_above.ensures (search rules)

pub returns : goal.returns
returns c =
    block_in_wire_and _ _ _ c.requires c.split_at.ensures.front _ c.split_at.ensures.back c.in_default.ensures _ c.in_ok-rows_above.ensures
