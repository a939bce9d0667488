-- `ones_of` meets its contract. The invariant of both loops, said of what is left: the ones so far and those still to come.
-- Assumes nothing.
use Rattle.std.proofs.Common.{◌≡◌, ◌+◌, ◌*◌, drop}
use Rattle.image.specs.Bits.{ones_in}
use Rattle.image.proofs.bytes.ones_of.Given as goal

abbrev pub invariant-loop-eight : goal.invariant-loop-eight
invariant-loop-eight l = l.ones + ones_in (drop (l.eight-index * 8) l.bytes) ≡ ones_in l.bytes

abbrev pub invariant-loop-byte : goal.invariant-loop-byte
invariant-loop-byte l = l.ones + ones_in (drop l.byte-index l.last) ≡ ones_in l.bytes
