-- `has_setting` meets its contract: the tests of each group are the definition's.
-- Assumes nothing.
use Rattle.settings.specs.Settings.{has_setting}
use Rattle.settings.proofs.fields.has_setting.Goals as goal

pub returns-in-Literal : goal.returns-in-Literal
unfolding has_setting
returns-in-Literal c = rw (c.in-Literal.is, c.block_count-n.ensures)

pub returns-in-WireAnd : goal.returns-in-WireAnd
unfolding has_setting
returns-in-WireAnd c = rw (c.in-WireAnd.is, c.block_count-n.ensures)

pub returns-in-Macrocell : goal.returns-in-Macrocell
unfolding has_setting
returns-in-Macrocell c = rw (c.in-Macrocell.is, c.block_count-n.ensures, c.index-index.ensures)

pub returns-in-Block : goal.returns-in-Block
unfolding has_setting
returns-in-Block c = rw (c.in-Block.is, c.block_count-n.ensures)

pub returns-in-Global : goal.returns-in-Global
unfolding has_setting
returns-in-Global c = rw (c.in-Global.is, c.index-index-in-Global.ensures, c.global_fields.ensures)
