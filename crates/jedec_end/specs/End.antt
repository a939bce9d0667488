-- What the answers about the end of a text say, in the terms of crate `jedec`.
-- The proofs work with these definitions, and no public contract does.
use Rattle.std.specs.Prelude.{ℕ, ◌≤◌, ◌≡◌, List, length, Result, Ok, Err}
use Rattle.part.specs.Outcome.{Outcome}
use Rattle.part.specs.Outcome.Outcome.{accepted}
use Rattle.jedec.specs.Cut.{Tail}
use Rattle.jedec.specs.Cut.Tail.{given, wrong}
use Rattle.jedec_end.specs.Verdict.{verdict, result_of}

-- What an answer about the bytes after ETX says.
abbrev pub tail_of : Result ℕ ℕ → Tail
tail_of (Ok x) = given x
tail_of (Err at) = wrong at

-- A wrong byte is in the text or right behind it.
abbrev pub TailFits : (text : List ℕ) → Result ℕ ℕ → Type 0
TailFits text (Ok x) = Unit {0}
TailFits text (Err at) = at ≤ length text

-- An answer says what the bytes after ETX say.
pub record TailStands (text : List ℕ) (at : ℕ) (t : Tail) (r : Result ℕ ℕ) : Type 0 where
  pub is : tail_of r ≡ t
  pub fits : TailFits text r

-- The answer to a text that means an outcome, and the image made where it is accepted.
pub record TextRead (o : Outcome (List ℕ)) (answer : Outcome (Unit {0})) (image : List ℕ) : Type 0 where
  pub answers : answer ≡ verdict o
  pub holds : answer ≡ accepted tt → image ≡ result_of o
