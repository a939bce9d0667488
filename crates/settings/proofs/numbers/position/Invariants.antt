-- What the loop of `position` keeps: the position so far, over the indices that are left, is the whole position.
-- Assumes nothing.
use mathlib.Core.Path.{◌≡◌}
use Prim.Native.Nat.{◌+◌, ◌*◌}
use Rattle.std.proofs.Common.{map, drop}
use Rattle.settings.specs.Order.{product, position}
use Rattle.settings.proofs.numbers.position.Given as goal

abbrev pub invariant-loop-index : goal.invariant-loop-index
invariant-loop-index g l =
    l.before * product (map (λ x. x.1) (drop l.index-index l.index-items))
    + position (map (λ x. x.1) (drop l.index-index l.index-items)) (map (λ x. x.0) (drop l.index-index l.index-items))
    ≡ position (map (λ x. x.1) l.index-items) (map (λ x. x.0) l.index-items)
