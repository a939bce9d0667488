-- `read_literal` meets its contract: unless its byte has a bit above its width, its one bit is read.
-- Assumes nothing.
use Rattle.part.proofs.Refused.{refused_with}
use Rattle.edit_by_number.proofs.Literals.{there, bit_in_lem, read_above, read_state}
use borrow.Author.Rules.{rules}
use Rattle.edit_by_number.proofs.by_number.read_literal.Goals as goal

pub returns-in_err-at : goal.returns-in_err-at
returns-in_err-at c = search (rules, refused_with, read_above)

pub bit_of-requires : goal.bit_of-requires
bit_of-requires c =
    (search (rules, there), bit_in_lem _ _ c.args.literal.is_literal c.args.literal.device.is_known _ _ c.in_ok-at.ensures.1)

pub returns : goal.returns
returns c = search (rules, read_state)
