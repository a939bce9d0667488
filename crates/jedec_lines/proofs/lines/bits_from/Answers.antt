-- `bits_from` meets its contract: eight bytes from that of the fuse on, or the last eight.
-- Assumes nothing.
use Rattle.jedec_lines.proofs.Bits.{bits_below, bits_last}
use borrow.Author.Rules.{rules}
use Rattle.jedec_lines.proofs.lines.bits_from.Goals as goal

pub returns-then-byte-last : goal.returns-then-byte-last
returns-then-byte-last c = search (rules, bits_below)

pub returns : goal.returns
returns c = search (rules, bits_last)
