-- `pattern_in` meets its contract: the candidate, with the definition's tests.
-- Assumes nothing.
use mathlib.Core.Path.{◌≡◌, refl}
use mathlib.Core.Bool.{Bool, true, false, cond, ◌&&◌}
use mathlib.Core.Option.Option.{none, some}
use Prim.Native.Nat.{ℕ, ◌^◌}
use lib.Dec.{ltb}
use Rattle.std.specs.Prelude.{Option}
use Rattle.std.specs.Bool.{then_some}
use Rattle.values.specs.Values.{bits_in, value_in}
use Rattle.values.specs.declared.Value.{Value}
use Rattle.values.specs.declared.Kind.{Kind}
use Rattle.patterns.specs.Patterns.{same, candidate, pattern_in, found_pattern}
use Rattle.patterns.proofs.Laws.{compared}
use Rattle.patterns.proofs.of_values.pattern_in.Goals as goal

module _ (k : Kind) (v : Value) (p : ℕ) (e : p ≡ candidate (value_in k) v) where
  taken : (bits : ℕ) (fits stands : Bool) (o : Option ℕ) → bits ≡ bits_in k → fits ≡ ltb p (2 ^ bits) → same (value_in k p) v ≡ stands
      → o ≡ then_some (fits && stands) p → found_pattern o ≡ pattern_in k v
  unfolding pattern_in
  taken bits fits stands o b f s g = rw (g, ← e, s, ← b, ← f) (chosen (fits && stands))
    where
      chosen : (t : Bool) → found_pattern (then_some t p) ≡ cond t (some p) none
      chosen true = refl
      chosen false = refl

pub returns : goal.returns
returns c =
    taken _ _ _ c.candidate-pattern.ensures _ _ _ _ c.bits_in.ensures c.fits-in_range.ensures
    (compared _ _ _ _ _ c.eq-stands.ensures c.value_in.ensures refl) c.then_some.ensures
