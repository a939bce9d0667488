-- `bits_at` meets its contract: the lowest bits of a word's first bytes, or of bytes one by one.
-- Assumes nothing.
use Rattle.jedec_runs.proofs.StatesTaken.{bits_by_word}
use Rattle.std.proofs.Common.{rules}
use Rattle.jedec_runs.proofs.states.bits_at.Goals as goal

pub returns-then-bytes-at-ge8 : goal.returns-then-bytes-at-ge8
returns-then-bytes-at-ge8 c = search (rules, bits_by_word)
