-- `put_bits` meets its contract: bytes stored one after another, and the last with its own high bits.
-- Assumes nothing.
use Rattle.jedec_image.proofs.BitsPut.{PutsBits}
use Rattle.jedec_image.proofs.states.put_bits.Given as goal

abbrev pub invariant-loop-index : goal.invariant-loop-index
invariant-loop-index l = PutsBits l.initial.image l.fuse l.bits l.count l.image l.index l.rest
