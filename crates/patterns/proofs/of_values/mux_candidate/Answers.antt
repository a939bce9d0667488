-- `mux_candidate` meets its contract: its tests are those of the clause.
-- Assumes nothing.
use Rattle.patterns.proofs.Laws.{compared}
use Rattle.patterns.proofs.of_values.mux_candidate.Goals as goal

pub returns-then-eq : goal.returns-then-eq
returns-then-eq c = rw (compared _ _ _ _ _ c.eq.ensures c.value_in.ensures c.if-eq.true)

pub returns-then-eq-2 : goal.returns-then-eq-2
returns-then-eq-2 c =
    rw (
      compared _ _ _ _ _ c.eq.ensures c.value_in.ensures c.if-eq.false,
      compared _ _ _ _ _ c.eq-else-eq.ensures c.value_in-else-eq.ensures c.if-eq-2.true,
    )

pub returns-else-eq-2 : goal.returns-else-eq-2
returns-else-eq-2 c =
    rw (
      compared _ _ _ _ _ c.eq.ensures c.value_in.ensures c.if-eq.false,
      compared _ _ _ _ _ c.eq-else-eq.ensures c.value_in-else-eq.ensures c.if-eq-2.false,
    )
