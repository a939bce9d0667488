-- `joined` meets its contract. The invariant: the word is the cells from `at + i` on, joined.
-- Assumes nothing.
use mathlib.Core.Path.{◌≡◌}
use Prim.Native.Nat.{◌+◌, ◌-◌}
use lib.ListN.{drop, replicate}
use Rattle.cells.specs.Cells.{join}
use Rattle.cells.proofs.words.joined.Given as goal

abbrev pub invariant-loop-i : goal.invariant-loop-i
invariant-loop-i l = l.word ≡ join (replicate (l.count - l.i) l.width) (drop (l.at + l.i) l.cells)
