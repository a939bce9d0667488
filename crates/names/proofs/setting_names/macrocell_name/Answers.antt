-- `macrocell_name` meets its contract: block, macrocell, and the parts of the field.
-- Assumes nothing.
use Rattle.names.proofs.Spelled.{macrocell_spelled}
use Rattle.cells.specs.Cells.{cut}
use borrow.Author.Rules.{rules}
use Rattle.names.proofs.setting_names.macrocell_name.Goals as goal

pub returns : goal.returns
unfolding cut
returns c = search (rules, macrocell_spelled)
