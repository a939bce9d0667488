-- `bit_of` meets its contract: a shift and the lowest bit.
-- Assumes nothing.
use Rattle.std.proofs.Common.{rules}
use Rattle.image.specs.Bits.{bit_at}
use Rattle.image.proofs.bytes.bit_of.Goals as goal

pub returns : goal.returns
unfolding bit_at
returns c = search rules
