-- `put_cells` meets its contract. The invariant, said of what is left: the stores of the cells still to come, made now, give
-- what all the stores give.
use mathlib.Core.Path.{◌≡◌}
use Prim.Native.Nat.{◌+◌, ◌-◌}
use lib.ListN.{length, replicate}
use lib.Seq.{sets}
use Rattle.cells.specs.Cells.{cut}
use Rattle.cells.proofs.words.put_cells.Given as goal

abbrev pub invariant-loop-i : goal.invariant-loop-i
invariant-loop-i l =
    (length l.out ≡ length l.initial.out)
    × (sets l.out (l.at + l.i) (cut (replicate (l.count - l.i) l.width) l.rest)
    ≡ sets l.initial.out l.at (cut (replicate l.count l.width) l.word))
