-- `put_name` meets its contract: the pieces so far are put.
-- Assumes nothing.
use native.Mathlib.Omega.{arith}
use Rattle.differences.proofs.LaidText.{nothing_laid, piece_room, piece_put, name_put}
use Rattle.differences.proofs.lines.put_name.Goals as goal

pub loop-piece-init : goal.loop-piece-init
loop-piece-init c = (nothing_laid _ _ _, omega arith)

pub put_piece-next-requires : goal.put_piece-next-requires
put_piece-next-requires c =
    piece_room c.args.n c.requires.0 (omega arith) _ _ c.args.at _ _ (omega arith) c.loop-piece.invariant.1 (omega (arith, c.requires.1))

pub loop-piece-preserved : goal.loop-piece-preserved
loop-piece-preserved c =
    piece_put c.args.n c.requires.0 (omega arith) _ _ _ _ _ _ _ _ (omega arith) c.loop-piece.invariant.0 c.loop-piece.invariant.1
    c.put_piece-next.ensures.0 c.put_piece-next.ensures.1

pub returns : goal.returns
returns c =
    name_put c.args.n c.requires.0 (omega arith) _ _ _ _ _ (omega arith) (omega arith) c.loop-piece.invariant.0 c.loop-piece.invariant.1
