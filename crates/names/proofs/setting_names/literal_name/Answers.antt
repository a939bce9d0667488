-- `literal_name` meets its contract: five parts.
-- Assumes nothing.
use Rattle.names.proofs.Spelled.{literal_spelled}
use Rattle.cells.specs.Cells.{cut}
use borrow.Author.Rules.{rules}
use Rattle.names.proofs.setting_names.literal_name.Goals as goal

pub returns : goal.returns
unfolding cut
returns c = search (rules, literal_spelled)
