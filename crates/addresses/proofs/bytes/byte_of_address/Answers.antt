-- `byte_of_address` meets its contract: the fields are the definition's.
-- Assumes nothing.
use borrow.Author.Tests.{eq-eqb, ne_eqb}
use Rattle.addresses.specs.Address.{byte_of_address}
use Rattle.addresses.proofs.bytes.byte_of_address.Goals as goal

pub returns-then-field_of-eq0 : goal.returns-then-field_of-eq0
unfolding byte_of_address
returns-then-field_of-eq0 c =
    let area = c in
    rw (
      ← area.field_of.ensures,
      eq-eqb _ _ c.if-field_of-eq0.true,
      area.field_of-block.ensures,
      c.field_of-then-field_of-eq0.ensures,
      c.field_of-then-field_of-eq0-2.ensures,
      c.field_of-then-field_of-eq0-3.ensures,
    )

pub returns-else-field_of-eq0 : goal.returns-else-field_of-eq0
unfolding byte_of_address
returns-else-field_of-eq0 c =
    let area = c in
    rw (
      ← area.field_of.ensures,
      ne_eqb _ _ c.if-field_of-eq0.false,
      area.field_of-block.ensures,
      c.field_of-else-field_of-eq0.ensures,
      c.field_of-else-field_of-eq0-2.ensures,
      c.field_of-else-field_of-eq0-3.ensures,
    )
