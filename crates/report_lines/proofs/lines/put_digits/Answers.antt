-- `put_digits` meets its contract: the digits still to come, from the last on.
-- Assumes nothing.
use Rattle.report_lines.proofs.PutBytes.{digit_put, no_digit}
use borrow.Author.Rules.{rules}
use Rattle.report_lines.proofs.lines.put_digits.Goals as goal

pub loop-i-preserved : goal.loop-i-preserved
loop-i-preserved c = search (rules, digit_put)

pub returns : goal.returns
returns c = search (rules, no_digit)
