-- `wire_and_row` meets its contract: the word put together is what the cells join to.
-- Assumes nothing.
use mathlib.Core.Path.{refl}
use native.Mathlib.Omega.{arith}
use Rattle.part.specs.declared.Area.TheVariants.{WireAnd}
use Rattle.readout_rows.specs.Widths.{row_widths}
use Rattle.readout_reader.proofs.Fields.{narrow, packed_at}
use Rattle.readout_reader.proofs.rows_in.wire_and_row.Goals as goal

pub returns : goal.returns
unfolding narrow row_widths
returns c =
    let start = c in
    packed_at (row_widths WireAnd) start.args.readout.now start.args.at start.args.skip _ _ refl (omega (arith, start.requires))
    start.requires.1 start.requires.2 c.word8.ensures c.five_together.ensures
