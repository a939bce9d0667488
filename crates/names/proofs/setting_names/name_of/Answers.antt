-- `name_of` meets its contract: the name of each group.
-- Assumes nothing.
use Rattle.names.proofs.Spelled.{literal_small, wire_and_small, macrocell_small, block_small, global_there, named}
use Rattle.names.proofs.setting_names.name_of.Goals as goal

pub literal_name-requires : goal.literal_name-requires
literal_name-requires c = literal_small _ _ c.args.there.device.is_known c.args.there.is_there c.in-Literal.is

pub wire_and_name-requires : goal.wire_and_name-requires
wire_and_name-requires c = wire_and_small _ _ c.args.there.device.is_known c.args.there.is_there c.in-WireAnd.is

pub macrocell_name-requires : goal.macrocell_name-requires
macrocell_name-requires c = macrocell_small _ _ c.args.there.device.is_known c.args.there.is_there c.in-Macrocell.is

pub block_name-requires : goal.block_name-requires
block_name-requires c = block_small _ _ c.args.there.device.is_known c.args.there.is_there c.in-Block.is

pub global_name-requires : goal.global_name-requires
global_name-requires c = global_there _ _ c.args.there.is_there c.in-Global.is

pub returns-in-Literal : goal.returns-in-Literal
returns-in-Literal c = named _ _ _ c.in-Literal.is c.literal_name.ensures

pub returns-in-WireAnd : goal.returns-in-WireAnd
returns-in-WireAnd c = named _ _ _ c.in-WireAnd.is c.wire_and_name.ensures

pub returns-in-Macrocell : goal.returns-in-Macrocell
returns-in-Macrocell c = named _ _ _ c.in-Macrocell.is c.macrocell_name.ensures

pub returns-in-Block : goal.returns-in-Block
returns-in-Block c = named _ _ _ c.in-Block.is c.block_name.ensures

pub returns-in-Global : goal.returns-in-Global
returns-in-Global c = named _ _ _ c.in-Global.is c.global_name.ensures
