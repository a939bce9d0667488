-- `with_field` meets its contract: what is shifted above the low bits is added to them. This is the law that ties the
-- shifts of an address to a sum of powers of two.
use mathlib.Core.Path.{◌∙◌, ap}
use native.Mathlib.Nat.{mod-eq_of_lt}
use lib.Bits.{bit_or, or_shifted_r}
use Rattle.addresses.proofs.bytes.with_field.Goals as goal

pub returns : goal.returns
returns c =
    ap (bit_or c.args.low) (mod-eq_of_lt c.requires.2) ∙ or_shifted_r c.args.value c.args.from c.args.low c.requires.1
