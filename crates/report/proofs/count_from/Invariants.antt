-- `count_from` meets its contract: the first QF field of those still to come is the first of all.
-- Assumes nothing.
use mathlib.Core.Path.{◌≡◌}
use Prim.Native.Nat.{◌-◌, ◌≤◌}
use lib.ListN.{length, drop}
use Rattle.jedec_fields.specs.Fields.{fields_at}
use Rattle.report.proofs.Choice.{first}
use Rattle.report.proofs.count_from.Given as goal

abbrev pub invariant-loop-next : goal.invariant-loop-next
invariant-loop-next l = (l.at ≤ length l.text) × (first (fields_at l.at (drop l.at l.text)) ≡ first (fields_at l.from (drop l.from l.text)))

abbrev pub decreases-loop-next : goal.decreases-loop-next
decreases-loop-next l = length l.text - l.at
