-- `put_line` meets its contract: its start, five columns, its end.
-- Assumes nothing.
use native.Mathlib.Omega.{arith}
use Rattle.jedec_lines.proofs.LineText.{line_bits, line_of}
use Rattle.jedec_lines.proofs.lines.put_line.Goals as goal

pub bits_from-word-requires : goal.bits_from-word-requires
bits_from-word-requires c = omega (arith, line_bits c.args.widths c.requires.4 (omega arith))

pub line_start-requires : goal.line_start-requires
line_start-requires c = omega (arith, line_bits c.args.widths c.requires.4 (omega arith))

pub returns-clause-stored : goal.returns-clause-stored
returns-clause-stored c =
    line_of _ _ _ _ _ _ _ _ _ _ _ c.bits_from-word.ensures c.requires.2 c.requires.4 (omega arith)
    c.line_start.ensures c.put_eight.ensures c.put_columns-behind.ensures.stored c.put_columns-behind.ensures.behind c.put_cells.ensures
