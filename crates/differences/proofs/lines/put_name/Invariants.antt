-- `put_name` meets its contract: the pieces so far are put.
-- Assumes nothing.
use Prim.Native.Nat.{◌+◌, ◌*◌, ◌≤◌}
use lib.ListN.{take}
use Rattle.names.specs.Pieces.{name_text}
use Rattle.differences.specs.Scan.{Laid}
use Rattle.differences.proofs.lines.put_name.Given as goal

abbrev pub invariant-loop-piece : goal.invariant-loop-piece
invariant-loop-piece l =
    Laid l.initial.out l.out l.at (l.at + 40) (name_text (take l.piece-index l.piece-items)) l.next × (l.next ≤ l.at + 8 * l.piece-index)
