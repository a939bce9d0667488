-- `skip_fours` meets its contract: what differs from the index on is the same after each turn.
-- Assumes nothing.
use native.Mathlib.Omega.{arith}
use Rattle.differences.proofs.Differing.{fours_on}
use borrow.Author.Rules.{rules}
use Rattle.differences.proofs.words.skip_fours.Goals as goal

pub loop-at-preserved : goal.loop-at-preserved
loop-at-preserved c = (search (rules, fours_on), omega arith, omega arith)
