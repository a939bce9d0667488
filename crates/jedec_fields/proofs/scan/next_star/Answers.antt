-- `next_star` meets its contract: the bytes passed, and the count over those still to come.
-- Assumes nothing.
use native.Mathlib.Omega.{arith}
use borrow.Author.Rules.{rules}
use Rattle.jedec_fields.proofs.Counts.{star_stops, star_goes, star_ends}
use Rattle.jedec_fields.proofs.scan.next_star.Goals as goal

pub returns-then-text-i-eq42 : goal.returns-then-text-i-eq42
returns-then-text-i-eq42 c = (search (rules, star_stops), omega arith)

pub loop-i-preserved : goal.loop-i-preserved
loop-i-preserved c = search (rules, star_goes)

pub returns : goal.returns
returns c = search (rules, star_ends)
