-- `states_run` meets its contract: the states counted over the first bytes, and few of them told as bits.
-- Assumes nothing.
use borrow.Author.Rules.{rules}
use Rattle.jedec_fields.proofs.StatesCounted.{counted_start, counted_stop, counted_next}
use Rattle.jedec_fields.proofs.StatesCounted.{counted_more, bits_fit}
use Rattle.jedec_fields.proofs.lists.states_run.Goals as goal
use Rattle.jedec_fields.proofs.lists.states_run.Goals.{then-run-le-STATES_IN_WORD, else-run-le-STATES_IN_WORD}

pub loop-run-init : goal.loop-run-init
loop-run-init c = search (rules, counted_start)

pub returns-then-taken-eq0 : goal.returns-then-taken-eq0
returns-then-taken-eq0 c = search (rules, counted_stop)

pub overflow_add-run-then-run-le-STATES_IN_WORD : goal.overflow_add-run-then-run-le-STATES_IN_WORD
overflow_add-run-then-run-le-STATES_IN_WORD c = record { fits = search (rules, bits_fit) }

pub loop-run-preserved : goal.loop-run-preserved
loop-run-preserved c =
    elim c.if-run-le-STATES_IN_WORD.branch [
      | then-run-le-STATES_IN_WORD w ↦ rw w.run-is (search (rules, counted_next))
      | else-run-le-STATES_IN_WORD w ↦ rw w.run-is (search (rules, counted_more))
    ]
