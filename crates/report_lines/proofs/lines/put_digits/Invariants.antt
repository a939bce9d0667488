-- `put_digits` meets its contract: the digits still to come, from the last on.
-- Assumes nothing.
use mathlib.Core.Path.{◌≡◌}
use lib.Seq.{sets}
use Rattle.jedec.specs.Characters.{decimal_digit, digits_of}
use Rattle.report_lines.proofs.lines.put_digits.Given as goal

abbrev pub invariant-loop-i : goal.invariant-loop-i
invariant-loop-i l =
    sets l.out l.at (digits_of 10 decimal_digit l.i l.rest) ≡ sets l.initial.out l.at (digits_of 10 decimal_digit l.count l.x)
