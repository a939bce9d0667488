-- What each answer of the code says: number and value of every refusal, as the papers give them, and the result.
-- A bit that a setting does not have is no refusal: it is `none`.
use Rattle.std.specs.Prelude as rust
use Rattle.std.specs.Prelude.{Result}
use Rattle.std.proofs.Math.Option.{Option}
use Rattle.std.proofs.Math.Option.Option.{none, some}
use Rattle.part.specs.Outcome.{Outcome}
use Rattle.part.specs.Answer.{outcome_of}
use Rattle.part.specs.declared.Refusal.{Refusal}
use Rattle.setting_places.specs.Places.{LocatedFuse}
use Rattle.setting_places.specs.declared.FuseAt.{FuseAt}

-- What an option of the code says, by what its value says.
abbrev pub option_of : {A B : Type 0} → (A → B) → rust.Option A → Option B
option_of f (rust.Some x) = some (f x)
option_of f rust.None = none

-- A fuse, its address and its bit there.
abbrev pub located_fuse : FuseAt → LocatedFuse
located_fuse x = (x.fuse.0, (x.at.address.0, x.at.bit))

abbrev pub bit_outcome : Result (rust.Option FuseAt) Refusal → Outcome (Option LocatedFuse)
bit_outcome = outcome_of (option_of located_fuse)
