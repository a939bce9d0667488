-- `eight_states` meets its contract: seven characters and the eighth.
-- Assumes nothing.
use Rattle.jedec_lines.proofs.Columns.{eight_bits}
use borrow.Author.Rules.{rules}
use Rattle.jedec_lines.proofs.characters.eight_states.Goals as goal

pub returns : goal.returns
returns c = search (rules, eight_bits)
