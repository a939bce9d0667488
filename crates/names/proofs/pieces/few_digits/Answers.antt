-- `few_digits` meets its contract: one digit, or two by a product.
-- Assumes nothing.
use Rattle.names.proofs.WordBytes.{one_digit, two_digits}
use mathlib.Core.Path.{refl}
use borrow.Author.Rules.{rules}
use Rattle.names.proofs.pieces.few_digits.Goals as goal

pub returns-then-x-lt10 : goal.returns-then-x-lt10
returns-then-x-lt10 c = (one_digit _ (search rules), search rules)

pub returns : goal.returns
returns c = (two_digits _ _ _ (search rules) (search rules) refl refl, search rules)
