-- `word_at` meets its contract: eight bytes, or fewer with zeros behind them.
-- Assumes nothing.
use Rattle.differences.proofs.Differing.{short_word}
use borrow.Author.Rules.{rules}
use Rattle.differences.proofs.words.word_at.Goals as goal

pub returns : goal.returns
returns c = search (rules, short_word)
