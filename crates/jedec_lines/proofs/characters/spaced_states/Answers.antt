-- `spaced_states` meets its contract: the eighth character is shifted out, by the test over all seven bits.
-- Assumes nothing.
use Rattle.jedec_lines.proofs.Columns.{spaced_bits}
use borrow.Author.Rules.{rules}
use Rattle.jedec_lines.proofs.characters.spaced_states.Goals as goal

pub returns : goal.returns
returns c = search (rules, spaced_bits)
