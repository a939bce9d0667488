-- `in_its_group` meets its contract: the tests find the group of the number.
-- Assumes nothing.
use Rattle.settings.proofs.Among.{among_literals, among_wire_ands, among_macrocells, among_blocks, among_globals}
use borrow.Author.Rules.{rules}
use Rattle.settings.proofs.numbers.in_its_group.Goals as goal

pub returns-then-x-wire_ands : goal.returns-then-x-wire_ands
returns-then-x-wire_ands c = search (rules, among_literals)

pub returns-then-x-macrocells : goal.returns-then-x-macrocells
returns-then-x-macrocells c = search (rules, among_wire_ands)

pub returns-then-x-blocks : goal.returns-then-x-blocks
returns-then-x-blocks c = search (rules, among_macrocells)

pub returns-then-x-globals : goal.returns-then-x-globals
returns-then-x-globals c = search (rules, among_blocks)

pub returns : goal.returns
returns c = search (rules, among_globals)
