-- `number_of` meets its contract: the first number of the group and the position there add up to the definition's number, which fits.
-- Assumes nothing.
use mathlib.Core.Path.{refl}
use native.Mathlib.Omega.{arith}
use borrow.Author.Rules.{rules}
use Rattle.settings.proofs.CodeNumbers as its
use Rattle.settings.proofs.numbers.number_of.Goals as goal

pub position-number-requires : goal.position-number-requires
position-number-requires c =
    let at = its.literal c.args.there _ _ _ _ _ _ _ c.in-Literal.is c.blocks-n.ensures c.index.ensures in
    search (rules, at.some, at.fits)

pub returns-in-Literal : goal.returns-in-Literal
returns-in-Literal c =
    let at = its.literal c.args.there _ _ _ _ _ _ _ c.in-Literal.is c.blocks-n.ensures c.index.ensures in
    omega (arith, at.number 0 _ refl c.position-number.ensures)

pub position-requires : goal.position-requires
position-requires c =
    let at = its.wire_and c.args.there _ _ _ _ _ c.in-WireAnd.is c.blocks-n.ensures in
    search (rules, at.some, at.fits)

pub overflow_add-number : goal.overflow_add-number
overflow_add-number c =
    let at = its.wire_and c.args.there _ _ _ _ _ c.in-WireAnd.is c.blocks-n.ensures in
    omega (arith, at.number _ _ c.start_of_wire_ands.ensures c.position.ensures)

pub returns-in-WireAnd : goal.returns-in-WireAnd
returns-in-WireAnd c =
    let at = its.wire_and c.args.there _ _ _ _ _ c.in-WireAnd.is c.blocks-n.ensures in
    (at.number _ _ c.start_of_wire_ands.ensures c.position.ensures).0

pub position-requires-in-Macrocell : goal.position-requires-in-Macrocell
position-requires-in-Macrocell c =
    let at = its.macrocell c.args.there _ _ _ _ _ c.in-Macrocell.is c.blocks-n.ensures c.index-in-Macrocell.ensures in
    search (rules, at.some, at.fits)

pub overflow_add-number-in-Macrocell : goal.overflow_add-number-in-Macrocell
overflow_add-number-in-Macrocell c =
    let at = its.macrocell c.args.there _ _ _ _ _ c.in-Macrocell.is c.blocks-n.ensures c.index-in-Macrocell.ensures in
    omega (arith, at.number _ _ c.start_of_macrocells.ensures c.position-in-Macrocell.ensures)

pub returns-in-Macrocell : goal.returns-in-Macrocell
returns-in-Macrocell c =
    let at = its.macrocell c.args.there _ _ _ _ _ c.in-Macrocell.is c.blocks-n.ensures c.index-in-Macrocell.ensures in
    (at.number _ _ c.start_of_macrocells.ensures c.position-in-Macrocell.ensures).0

pub position-requires-in-Block : goal.position-requires-in-Block
position-requires-in-Block c =
    let at = its.block c.args.there _ _ _ _ c.in-Block.is c.blocks-n.ensures c.index-in-Block.ensures in
    search (rules, at.some, at.fits)

pub overflow_add-number-in-Block : goal.overflow_add-number-in-Block
overflow_add-number-in-Block c =
    let at = its.block c.args.there _ _ _ _ c.in-Block.is c.blocks-n.ensures c.index-in-Block.ensures in
    omega (arith, at.number _ _ c.start_of_blocks.ensures c.position-in-Block.ensures)

pub returns-in-Block : goal.returns-in-Block
returns-in-Block c =
    let at = its.block c.args.there _ _ _ _ c.in-Block.is c.blocks-n.ensures c.index-in-Block.ensures in
    (at.number _ _ c.start_of_blocks.ensures c.position-in-Block.ensures).0

pub overflow_add-number-in-Global : goal.overflow_add-number-in-Global
overflow_add-number-in-Global c =
    omega (arith, its.global c.args.there _ _ _ c.in-Global.is c.index-in-Global.ensures c.start_of_globals.ensures)

pub returns-in-Global : goal.returns-in-Global
returns-in-Global c = (its.global c.args.there _ _ _ c.in-Global.is c.index-in-Global.ensures c.start_of_globals.ensures).0
