-- `wire_and_name` meets its contract: five parts.
-- Assumes nothing.
use Rattle.names.proofs.Spelled.{wire_and_spelled, uim_held}
use Rattle.cells.specs.Cells.{cut}
use borrow.Author.Rules.{rules}
use Rattle.names.proofs.setting_names.wire_and_name.Goals as goal

pub returns : goal.returns
unfolding cut
returns c = search (rules, uim_held, wire_and_spelled)
