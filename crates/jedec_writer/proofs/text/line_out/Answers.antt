-- `line_out` meets its contract: one line.
-- Assumes nothing.
use native.Mathlib.Omega.{arith}
use Rattle.jedec.specs.WrittenText.{pattern_fuses}
use Rattle.jedec_writer.specs.Pattern.{lines_bytes}
use Rattle.jedec_writer.proofs.Lines.{one_lined}
use Rattle.jedec_writer.proofs.text.line_out.Goals as goal

pub put_line-fuses-requires : goal.put_line-fuses-requires
unfolding pattern_fuses lines_bytes
put_line-fuses-requires c = (
  c.requires.room.word,
  c.requires.room.few,
  omega (arith, c.requires.room.fuses),
  omega (arith, c.requires.room.bytes),
  c.requires.wide,
)

pub overflow_add-result : goal.overflow_add-result
unfolding pattern_fuses
overflow_add-result c = omega (arith, c.requires.room.fuses, c.requires.room.few)

pub overflow_add-result-3 : goal.overflow_add-result-3
unfolding lines_bytes
overflow_add-result-3 c = omega (arith, c.requires.room.bytes)

pub returns : goal.returns
returns c = one_lined _ _ _ _ _ _ c.put_line-fuses.ensures.stored (omega arith) (omega arith)
