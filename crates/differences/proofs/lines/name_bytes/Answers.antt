-- `name_bytes` meets its contract: the bytes of the pieces so far.
-- Assumes nothing.
use native.Mathlib.Omega.{arith}
use Rattle.names.specs.declared.pieces.Piece.{Piece}
use Rattle.differences.proofs.LaidText.{bytes_fit, bytes_more, bytes_all}
use Rattle.differences.proofs.lines.name_bytes.Goals as goal

pub overflow_add-bytes : goal.overflow_add-bytes
overflow_add-bytes c =
    let none : Piece = record { word = 0; len = 0 } in
    omega (
      arith,
      bytes_fit c.args.n c.requires (omega arith) none c.loop-piece.piece-index c.loop-piece.bytes (omega arith) c.loop-piece.invariant.1,
    )

pub loop-piece-preserved : goal.loop-piece-preserved
loop-piece-preserved c = (
  bytes_more c.args.n c.requires (omega arith) _ _ _ (omega arith) c.loop-piece.invariant.0,
  bytes_fit c.args.n c.requires (omega arith) _ _ _ (omega arith) c.loop-piece.invariant.1,
)

pub returns : goal.returns
returns c =
    bytes_all c.args.n c.requires (omega arith) _ _ (omega arith) (omega arith) c.loop-piece.invariant.0 c.loop-piece.invariant.1
