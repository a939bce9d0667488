-- The word of an answer: what a call returned, and what its definition says, packed alike; and what a caller reads of it.
--   packed_same     equal answers have equal words
--   unpacked        a caller reads 0 and the result, or the refusal's number, which is not 0, and its value; where these have 56 bits
--   unpacked_none   the same where a result may be missing, and it is XC9500_NONE exactly where there is none
--   each_fits       every answer of the interface is such (proofs/Fitting.antt)
--   parts_read      a caller reads address and bit of a fuse, and fuse, address and bit of a setting's bit (proofs/Fitting.antt)
use mathlib.Core.Path.{◌≡◌, refl, ◌∙◌, ap}
use mathlib.Core.Logic.{◌↔◌}
use mathlib.Core.Option.{Option}
use mathlib.Core.Option.Option.{none, some}
use Prim.Native.Nat.{ℕ, ◌-◌, ◌^◌}
use native.Mathlib.Nat.{div-eq_of_lt, mod-eq_of_lt}
use native.Mathlib.Omega.{arith}
use lib.Pow.{high, low}
use Rattle.part.specs.Outcome.{Outcome}
use Rattle.part.specs.Outcome.Outcome.{accepted, refused}
use Rattle.xc9500.specs.Packed.{packed, or_none, result_in, WordReads, WordFits, WordFitsOrNone}
pub use Rattle.xc9500.proofs.Fitting.{each_fits, parts_read}

pub packed_same : {A : Type 0} (word : A → ℕ) {w : ℕ} {answer o : Outcome A} → w ≡ packed word answer → answer ≡ o → w ≡ packed word o
packed_same word e f = e ∙ ap (packed word) f

pub unpacked : {A : Type 0} (result : A → ℕ) (o : Outcome A) → WordFits result o → WordReads result o (packed result o)
unpacked result (accepted x) h = (div-eq_of_lt h, mod-eq_of_lt h)
unpacked result (refused number value) (positive, h) = let its = high number 56 h in (rw its positive, its, low number 56 h)

module _ {A : Type 0} (result : A → ℕ) where
  with_none : (o : Outcome (Option A)) → WordFitsOrNone result o → WordFits (or_none result) o
  with_none (accepted none) h = omega arith
  with_none (accepted (some x)) h = omega arith
  with_none (refused number value) h = h

  is_none : (x : Option A) → WordFitsOrNone result (accepted x)
      → (result_in (packed (or_none result) (accepted x)) ≡ 2 ^ 56 - 1) ↔ (x ≡ none)
  is_none none h = (λ e. refl, λ e. refl)
  is_none (some x) h = (λ e. absurd (omega arith), λ e. let z : ◌≡◌ {A = ℕ} 0 1 = cc in absurd (omega arith))

  pub unpacked_none : (o : Outcome (Option A)) → WordFitsOrNone result o
      → WordReads (or_none result) o (packed (or_none result) o)
      × ((x : Option A) → o ≡ accepted x → (result_in (packed (or_none result) o) ≡ 2 ^ 56 - 1) ↔ (x ≡ none))
  unpacked_none o h = (unpacked (or_none result) o (with_none o h), λ x e. rw e (is_none x (rw e at h)))
