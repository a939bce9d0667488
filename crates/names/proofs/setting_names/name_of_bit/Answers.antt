-- `name_of_bit` meets its contract: the name, and the bit behind it.
-- Assumes nothing.
use Rattle.names.proofs.AtFuse.{bit_spelled}
use borrow.Author.Rules.{rules}
use Rattle.names.proofs.setting_names.name_of_bit.Goals as goal

pub returns : goal.returns
returns c = search (rules, bit_spelled)
