-- `next_other` meets its contract: the bytes passed, and the count over those still to come.
-- Assumes nothing.
use native.Mathlib.Omega.{arith}
use borrow.Author.Rules.{rules}
use Rattle.jedec.proofs.Counts.{blanks_stop, blanks_go, blanks_end}
use Rattle.jedec.proofs.blanks.next_other.Goals as goal

pub returns-then-not-is_blank : goal.returns-then-not-is_blank
returns-then-not-is_blank c = (search (rules, blanks_stop), omega arith)

pub loop-i-preserved : goal.loop-i-preserved
loop-i-preserved c = search (rules, blanks_go)

pub returns : goal.returns
returns c = search (rules, blanks_end)
