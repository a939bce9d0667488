-- `bit_part` meets its contract: nothing, or a dot and digits.
-- Assumes nothing.
use Rattle.names.proofs.AtFuse.{no_bit_lem, after_dot, bit_small}
use Rattle.names.proofs.Spelled.{nothing_held}
use Rattle.cells.specs.Cells.{cut}
use borrow.Author.Rules.{rules}
use Rattle.names.proofs.setting_names.bit_part.Goals as goal

pub returns-then-bits_of-le1 : goal.returns-then-bits_of-le1
returns-then-bits_of-le1 c = (search (rules, no_bit_lem, nothing_held), search rules)

pub numbered-requires : goal.numbered-requires
numbered-requires c = (search rules, search rules, bit_small _ _ _ c.args.there.is_there c.requires)

pub returns : goal.returns
unfolding cut
returns c = (search (rules, after_dot), search rules)
