-- What the answers of the two conversions say: the result, or number and value of a refusal, as the papers give them.
-- A contract that cites these determines the answer (`refusal_determined` in part/proofs/Laws.antt).
use Rattle.std.specs.Prelude.{ℕ, Result}
use Rattle.part.specs.Outcome.{Outcome}
use Rattle.part.specs.Answer.{outcome_of}
use Rattle.part.specs.declared.FuseNumber.{FuseNumber}
use Rattle.part.specs.declared.Refusal.{Refusal}
use Rattle.addresses.specs.declared.AddressBit.{AddressBit}

-- An address and a bit.
abbrev pub address_outcome : Result AddressBit Refusal → Outcome (ℕ × ℕ)
address_outcome = outcome_of (λ a. (a.address.0, a.bit))

abbrev pub fuse_outcome : Result FuseNumber Refusal → Outcome ℕ
fuse_outcome = outcome_of (λ f. f.0)
