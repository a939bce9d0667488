-- `pair_of` meets its contract: a shift and the lowest two bits.
-- Assumes nothing.
use Rattle.std.proofs.Common.{rules}
use Rattle.image.specs.Bits.{bit_at}
use Rattle.image.proofs.Pairs.{pair_bits}
use Rattle.image.proofs.bytes.pair_of.Goals as goal

pub returns : goal.returns
unfolding bit_at
returns c = search (rules, pair_bits)
