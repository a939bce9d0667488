-- `put_eight` meets its contract: the bytes of a word are the word cut into bytes.
-- Assumes nothing.
use borrow.Author.Rules.{rules}
use Rattle.jedec_lines.proofs.Words.{word_stored}
use Rattle.jedec_lines.proofs.Stored.{next_stored}
use Rattle.jedec_lines.proofs.lines.put_eight.Goals as goal

pub loop-k-preserved : goal.loop-k-preserved
loop-k-preserved c = search (rules, next_stored)

pub returns : goal.returns
returns c = search (rules, word_stored)
