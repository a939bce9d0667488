-- `put_refusal` meets its contract: two words, each with its number.
-- Assumes nothing.
use Rattle.report_lines.proofs.PutBytes.{two_words}
use borrow.Author.Rules.{rules}
use Rattle.report_lines.proofs.lines.put_refusal.Goals as goal

pub returns : goal.returns
returns c = search (rules, two_words)
