-- What each answer of the code says: number and value of every refusal, as the papers give them, and the result.
-- A contract that cites these determines the answer (`refusal_determined` in proofs/Laws.antt).
use Rattle.std.specs.Prelude.{ℕ, Result, Ok, Err}
use Rattle.part.specs.Outcome.{Outcome}
use Rattle.part.specs.Outcome.Outcome.{accepted, refused}
use Rattle.part.specs.declared.Refusal.{Refusal}
use Rattle.part.specs.declared.Refusal.TheVariants.{UnknownDevice, WrongLength, NoSuchFuse, NoSuchSetting}
use Rattle.part.specs.declared.Refusal.TheVariants.{NoSuchValue, BitAboveWidth, BadForm, WrongFuseCount}
use Rattle.part.specs.declared.Refusal.TheVariants.{MisplacedFuseList, WrongFuseSum, WrongTransmissionSum}
use Rattle.part.specs.declared.Refusal.TheVariants.{BufferTooShort, FuseNotGiven}
use Rattle.part.specs.declared.Sizes.{Sizes}

-- "no."
abbrev pub refusal_number : Refusal → ℕ
refusal_number UnknownDevice = 1
refusal_number WrongLength = 2
refusal_number NoSuchFuse = 3
refusal_number NoSuchSetting = 4
refusal_number NoSuchValue = 5
refusal_number (BitAboveWidth index) = 6
refusal_number (BadForm at) = 7
refusal_number (WrongFuseCount at) = 8
refusal_number (MisplacedFuseList at) = 9
refusal_number (WrongFuseSum at) = 10
refusal_number (WrongTransmissionSum at) = 11
refusal_number (BufferTooShort needed) = 12
refusal_number (FuseNotGiven fuse) = 13

-- "returns besides".
abbrev pub refusal_value : Refusal → ℕ
refusal_value UnknownDevice = 0
refusal_value WrongLength = 0
refusal_value NoSuchFuse = 0
refusal_value NoSuchSetting = 0
refusal_value NoSuchValue = 0
refusal_value (BitAboveWidth index) = index
refusal_value (BadForm at) = at
refusal_value (WrongFuseCount at) = at
refusal_value (MisplacedFuseList at) = at
refusal_value (WrongFuseSum at) = at
refusal_value (WrongTransmissionSum at) = at
refusal_value (BufferTooShort needed) = needed
refusal_value (FuseNotGiven fuse) = fuse

-- What an answer of the code says, by what its result says.
abbrev pub outcome_of : {A B : Type 0} → (A → B) → Result A Refusal → Outcome B
outcome_of f (Ok x) = accepted (f x)
outcome_of f (Err r) = refused (refusal_number r) (refusal_value r)

abbrev pub sizes_outcome : Result Sizes Refusal → Outcome Sizes
sizes_outcome = outcome_of (λ x. x)

-- What an answer that is a plain number says, here and in the crates above.
abbrev pub number_outcome : Result ℕ Refusal → Outcome ℕ
number_outcome = outcome_of (λ x. x)

-- What an answer without a result says.
abbrev pub done_outcome : Result (Unit {0}) Refusal → Outcome (Unit {0})
done_outcome = outcome_of (λ x. x)
