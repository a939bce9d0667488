-- `set_literal` meets its contract: unless its byte has a bit above its width, its one bit is put in place.
-- Assumes nothing.
use Rattle.part.proofs.Refused.{written_with}
use Rattle.edit_by_number.proofs.Literals.{not_two, there, bit_in_lem, set_above, set_state}
use borrow.Author.Rules.{rules}
use Rattle.edit_by_number.proofs.by_number.set_literal.Goals as goal

pub returns-then-pattern-gt1 : goal.returns-then-pattern-gt1
returns-then-pattern-gt1 c = search (rules, not_two)

pub returns-in_err-at : goal.returns-in_err-at
returns-in_err-at c = search (rules, written_with, set_above)

pub set_bit-requires : goal.set_bit-requires
set_bit-requires c = (
  search (rules, there),
  bit_in_lem _ _ c.args.literal.is_literal c.args.literal.device.is_known _ _ c.in_ok-at.ensures.1,
  search rules,
)

pub returns : goal.returns
returns c = search (rules, set_state)
