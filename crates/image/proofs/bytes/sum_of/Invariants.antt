-- `sum_of` meets its contract. The invariant, said of what is left: the sums so far and the bytes still to come.
-- Assumes nothing.
use Rattle.std.proofs.Common.{◌*◌, drop}
use Rattle.image.specs.Image.{sum16}
use Rattle.image.proofs.Counts.{SoFar}
use Rattle.image.proofs.bytes.sum_of.Given as goal

abbrev pub invariant-loop-two : goal.invariant-loop-two
invariant-loop-two l = SoFar l.pairs l.seconds (drop (l.two-index * 2) l.bytes) (sum16 l.bytes)

abbrev pub invariant-loop-odd : goal.invariant-loop-odd
invariant-loop-odd l = SoFar l.pairs l.seconds (drop l.odd-index l.last) (sum16 l.bytes)
