-- `part_for` meets its contract: the test against the fuse count of four blocks.
-- Assumes nothing.
use mathlib.Core.Path.{refl}
use Rattle.part.specs.Device.{known}
use Rattle.report.proofs.Choice.{four_read, other_read, none_read}
use borrow.Author.Rules.{rules}
use Rattle.report.proofs.part_for.Goals as goal
use Rattle.report.proofs.part_for.Goals.{in-Some, in_default-2, in_default}

pub invariant_of-fuse_count : goal.invariant_of-fuse_count
unfolding known
invariant_of-fuse_count c = record { is_known = refl }

pub invariant_of-result : goal.invariant_of-result
unfolding known
invariant_of-result c = elim c.match-first_count.branch [
  | in-Some w ↦ rw w.result-is (record { is_known = refl })
  | in_default-2 w ↦ rw w.result-is (record { is_known = refl })
  | in_default w ↦ rw w.result-is (record { is_known = refl })
]

pub returns : goal.returns
returns c = elim c.match-first_count.branch [
  | in-Some w ↦ rw w.result-is (search (rules, four_read))
  | in_default-2 w ↦ rw w.result-is (search (rules, other_read))
  | in_default w ↦ rw w.result-is (search (rules, none_read))
]
