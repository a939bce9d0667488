-- What a conversion answers after the tests of `part_of`, and what its target then holds.
-- Assumes nothing.
use Rattle.std.proofs.Common.{◌≡◌, ℕ, Bool, true, false, cond, List, sym, refl, ap, ◌∙◌}
use borrow.Author.Tests.{eqb-true}
use lib.Dec.{eqb}
use Rattle.std.specs.Prelude.{Result}
use Rattle.std.specs.Result.{IsErrAnd}
use Rattle.part.specs.Answer.{refusal_number, refusal_value, done_outcome}
use Rattle.part.specs.Outcome.{Outcome, written, Written}
use Rattle.part.specs.Outcome.Outcome.{accepted, refused}
use Rattle.part.specs.Device.{known}
use Rattle.part.specs.Sizes.{if_known, if_length}
use Rattle.part.specs.declared.Device.{Device}
use Rattle.part.specs.declared.Refusal.{Refusal}
use Rattle.part.proofs.Checks.{passed, the_device, the_length}
use Rattle.part.proofs.Refused.{written_with}
use Rattle.part.proofs.Targets.{tested, says}

-- The tests passed.
abbrev pub done : Outcome (Unit {0})
done = accepted tt

-- Both lengths have the same refusal, so it is the same which is tested first.
pub other_first : (d : Device) (i x r y : ℕ) (o : Outcome (Unit {0})) → tested d i x r y o ≡ tested d r y i x o
other_first d i x r y o = ap (λ (p : Outcome (Unit {0})). if_known d p) (go (eqb i x) (eqb r y))
  where
    go : (a b : Bool) → cond a (cond b o (refused 2 0)) (refused 2 0) ≡ cond b (cond a o (refused 2 0)) (refused 2 0)
    go true b = refl
    go false true = refl
    go false false = refl

module _ (d : Device) (i x r y : ℕ) (o : Outcome (Unit {0})) (result before : List ℕ) where
  -- A refusal of the tests is the refusal of the whole.
  still_refused : (n v : ℕ) → refused n v ≡ tested d i x r y done → refused n v ≡ tested d i x r y o
  still_refused n v = go (known d) (eqb i x) (eqb r y)
    where
      go : (a b c : Bool)
          → ◌≡◌ {A = Outcome (Unit {0})} (refused n v) (cond a (cond b (cond c done (refused 2 0)) (refused 2 0)) (refused 1 0))
          → refused n v ≡ cond a (cond b (cond c o (refused 2 0)) (refused 2 0)) (refused 1 0)
      go true true true h = cc
      go true true false h = h
      go true false c h = h
      go false b c h = h

  pub refused_on : (a : Result (Unit {0}) Refusal) (z : Refusal) → IsErrAnd a (λ w. w ≡ z)
      → refused (refusal_number z) (refusal_value z) ≡ tested d i x r y done
      → Written (tested d i x r y o) (done_outcome a) result before before
  refused_on a z h g =
      written_with (λ w. w) (tested d i x r y o) a z z result before before h refl
      (says (tested d i x r y o) (refused (refusal_number z) (refusal_value z)) result before (still_refused _ _ g))

  -- The same where the other length is tested first.
  pub refused_other : (a : Result (Unit {0}) Refusal) (z : Refusal) → IsErrAnd a (λ w. w ≡ z)
      → refused (refusal_number z) (refusal_value z) ≡ tested d i x r y done
      → Written (tested d r y i x o) (done_outcome a) result before before
  refused_other a z h g = rw (← other_first d i x r y o) (refused_on a z h g)

module _ (d : Device) (i x r y : ℕ) (h : done ≡ tested d i x r y done) where
  first_passed : (known d ≡ true) × (if_length i x (if_length r y done) ≡ done)
  first_passed = passed (known d) _ 1 0 (sym h)

  pub exact_image : i ≡ x
  exact_image = eqb-true i x (passed (eqb i x) _ 2 0 first_passed.1).0

  pub exact_readout : r ≡ y
  exact_readout = eqb-true r y (passed (eqb r y) _ 2 0 (passed (eqb i x) _ 2 0 first_passed.1).1).0

  -- What the conversion answers and leaves in its target, where the tests pass.
  pub passed_on : (o answer : Outcome (Unit {0})) (result before after : List ℕ) → answer ≡ o → after ≡ written answer result before
      → Written (tested d i x r y o) answer result before after
  passed_on o answer result before after e f =
      let same : answer ≡ tested d i x r y o =
      e ∙ sym (the_length r y o y refl exact_readout) ∙ sym (the_length i x _ x refl exact_image) ∙ sym (the_device d _ first_passed.0) in
      record { answers = same; holds = f ∙ ap (λ (w : Outcome (Unit {0})). written w result before) same }
