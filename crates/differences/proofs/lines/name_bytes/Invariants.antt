-- `name_bytes` meets its contract: the bytes of the pieces so far.
-- Assumes nothing.
use mathlib.Core.Path.{◌≡◌}
use Prim.Native.Nat.{◌*◌, ◌≤◌}
use lib.ListN.{length, take}
use Rattle.names.specs.Pieces.{name_text}
use Rattle.differences.proofs.lines.name_bytes.Given as goal

abbrev pub invariant-loop-piece : goal.invariant-loop-piece
invariant-loop-piece l =
    (l.bytes ≡ length (name_text (take l.piece-index l.piece-items))) × (l.bytes ≤ 8 * l.piece-index)
