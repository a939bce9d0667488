-- `skip_same` meets its contract: what differs from the index on is the same after each turn.
-- Assumes nothing.
use native.Mathlib.Omega.{arith}
use Rattle.differences.proofs.Differing.{eight_on}
use borrow.Author.Rules.{rules}
use Rattle.differences.proofs.words.skip_same.Goals as goal

pub loop-at-preserved : goal.loop-at-preserved
loop-at-preserved c = (
  eight_on _ _ _ _ _ _ c.loop-at.invariant.0 (search rules) (search rules) c.word8.ensures c.word8-in-loop-at.ensures
      (search rules),
  omega arith,
  omega arith,
)
