-- `lowest_bits` meets its contract: a computed test over all eight bits.
-- Assumes nothing.
use Rattle.jedec_runs.proofs.LowestBits.{together}
use Rattle.std.proofs.Common.{rules}
use Rattle.jedec_runs.proofs.states.lowest_bits.Goals as goal

pub returns : goal.returns
returns c = search (rules, together)
