-- `block_name` meets its contract: block and field.
-- Assumes nothing.
use Rattle.names.proofs.Spelled.{block_spelled, nothing_held}
use Rattle.cells.specs.Cells.{cut}
use borrow.Author.Rules.{rules}
use Rattle.names.proofs.setting_names.block_name.Goals as goal

pub returns : goal.returns
unfolding cut
returns c = search (rules, block_spelled, nothing_held)
