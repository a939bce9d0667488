-- `number_in` meets its contract: 1 to 7 digits and nothing else.
-- Assumes nothing.
use Rattle.jedec_judge.proofs.Numbers.{no_number, other_byte, all_digits}
use borrow.Author.Rules.{rules}
use Rattle.jedec_judge.proofs.digits.number_in.Goals as goal

pub returns-then-digits-eq0 : goal.returns-then-digits-eq0
returns-then-digits-eq0 c = search (rules, no_number)

pub returns-then-digits-bytes : goal.returns-then-digits-bytes
returns-then-digits-bytes c = search (rules, other_byte)

pub returns : goal.returns
returns c = search (rules, all_digits)
