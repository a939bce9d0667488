-- What a call answers, in document 01's terms: a result, or the number of a refusal with what it returns besides.
-- Every operation's definition, here and in the crates above, is a function into this type.
use Rattle.std.specs.Prelude.{◌≡◌, List, ℕ}

pub data Outcome (A : Type 0) : Type 0 where
  accepted : A → Outcome A
  refused : (number : ℕ) → (value : ℕ) → Outcome A

-- What a slice that a call may change holds after it: the result where the call is accepted, and else what it held.
abbrev pub written : {A : Type 0} → Outcome A → (result before : List ℕ) → List ℕ
written (Outcome.accepted x) result before = result
written (Outcome.refused number value) result before = before

-- What a call answers, and what the slice then holds.
pub record Written {A : Type 0} (o answer : Outcome A) (result before after : List ℕ) : Type 0 where
  pub answers : answer ≡ o
  pub holds : after ≡ written o result before
