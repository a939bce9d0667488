-- `global_name` meets its contract: the field alone.
-- Assumes nothing.
use Rattle.names.proofs.Spelled.{global_spelled, nothing_held}
use Rattle.cells.specs.Cells.{cut}
use borrow.Author.Rules.{rules}
use Rattle.names.proofs.setting_names.global_name.Goals as goal

pub returns : goal.returns
unfolding cut
returns c = search (rules, global_spelled, nothing_held)
