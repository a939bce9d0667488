-- `states_first` meets its contract: each byte taken is a 0 or 1.
-- Assumes nothing.
use Rattle.jedec_runs.proofs.Words.{no_states, eight_states, seven_states, six_states}
use Rattle.std.proofs.Common.{rules}
use Rattle.jedec_runs.proofs.states.states_first.Goals as goal

pub returns-then-others-eq0 : goal.returns-then-others-eq0
returns-then-others-eq0 c = search (rules, eight_states)

pub returns-then-low_bits-eq0 : goal.returns-then-low_bits-eq0
returns-then-low_bits-eq0 c = search (rules, seven_states)

pub returns-then-low_bits-eq0-2 : goal.returns-then-low_bits-eq0-2
returns-then-low_bits-eq0-2 c = search (rules, six_states)

pub returns : goal.returns
returns c = search (rules, no_states)
