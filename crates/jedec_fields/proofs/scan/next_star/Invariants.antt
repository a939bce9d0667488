-- `next_star` meets its contract: the bytes passed, and the count over those still to come.
-- Assumes nothing.
use mathlib.Core.Path.{◌≡◌}
use Prim.Native.Nat.{◌+◌}
use lib.ListN.{drop}
use Rattle.jedec_fields.specs.Fields.{until_star}
use Rattle.jedec_fields.proofs.scan.next_star.Given as goal

abbrev pub invariant-loop-i : goal.invariant-loop-i
invariant-loop-i l = l.i + until_star (drop l.i l.text) ≡ l.at + until_star (drop l.at l.text)
