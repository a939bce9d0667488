-- `states_at` meets its contract: by a word, or else by one byte.
-- Assumes nothing.
use Rattle.jedec_runs.proofs.StatesTaken.{one_state, none_taken}
use Rattle.std.proofs.Common.{rules}
use Rattle.jedec_runs.proofs.states.states_at.Goals as goal

pub returns-then-b : goal.returns-then-b
returns-then-b c = search (rules, one_state)

pub returns : goal.returns
returns c = search (rules, none_taken)
