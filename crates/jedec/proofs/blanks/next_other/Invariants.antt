-- `next_other` meets its contract: the bytes passed, and the count over those still to come.
-- Assumes nothing.
use mathlib.Core.Path.{◌≡◌}
use Prim.Native.Nat.{◌+◌}
use lib.ListN.{drop}
use Rattle.jedec.specs.Cut.{blanks_before}
use Rattle.jedec.proofs.blanks.next_other.Given as goal

abbrev pub invariant-loop-i : goal.invariant-loop-i
invariant-loop-i l = l.i + blanks_before (drop l.i l.text) ≡ l.at + blanks_before (drop l.at l.text)
