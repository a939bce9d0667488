-- `put_number` meets its contract: a word, and as many digits as the number has.
-- Assumes nothing.
use Rattle.report_lines.proofs.PutBytes.{number_short, word_number}
use borrow.Author.Rules.{rules}
use Rattle.report_lines.proofs.lines.put_number.Goals as goal

pub returns : goal.returns
returns c = (search (rules, word_number), search (rules, number_short))
