-- What a call answers that passes on a refusal by `?`: that refusal.
-- Assumes nothing.
use mathlib.Core.Path.{◌≡◌, ◌∙◌, ap}
use Prim.Native.Nat.{ℕ}
use mathlib.Core.List.{List}
use Rattle.std.specs.Prelude.{Result, Ok, Err}
use Rattle.std.specs.Result.{IsErrAnd}
use Rattle.part.specs.Outcome.{Outcome, Written}
use Rattle.part.specs.Outcome.Outcome.{refused}
use Rattle.part.specs.Answer.{refusal_number, refusal_value, outcome_of}
use Rattle.part.specs.declared.Refusal.{Refusal}

-- `x` is the refusal passed on, and `y` the one that it is.
pub refused_with : {A B : Type 0} (f : A → B) (o : Outcome B) (r : Result A Refusal) (x y : Refusal) → IsErrAnd r (λ z. z ≡ x) → x ≡ y
    → refused (refusal_number y) (refusal_value y) ≡ o → outcome_of f r ≡ o
refused_with f o (Ok z) x y h g k = elim h [ ]
refused_with f o (Err z) x y h g k = ap (λ (w : Refusal). outcome_of f (Err w)) (h ∙ g) ∙ k

-- The same where a slice may be changed.
pub written_with : {A B : Type 0} (f : A → B) (o : Outcome B) (r : Result A Refusal) (x y : Refusal) (result before after : List ℕ)
    → IsErrAnd r (λ z. z ≡ x) → x ≡ y → Written o (refused (refusal_number y) (refusal_value y)) result before after
    → Written o (outcome_of f r) result before after
written_with f o r x y result before after h g k = record { answers = refused_with f o r x y h g k.answers; holds = k.holds }
