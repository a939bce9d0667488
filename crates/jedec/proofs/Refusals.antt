-- Which texts are refused 9, for an L out of place, and 13, for a fuse not given (`Refused9`, `Refused13` in specs/Form.antt).
-- Assumes nothing.
use mathlib.Core.Path.{◌≡◌, sym, ◌∙◌}
use mathlib.Core.Logic.{◌↔◌}
use mathlib.Core.List.{List}
use mathlib.Core.Option.{Option}
use mathlib.Core.Option.Option.{none, some}
use Prim.Native.Nat.{ℕ}
use native.Mathlib.Omega.{arith}
use Rattle.part.specs.Outcome.{Outcome}
use Rattle.part.specs.Outcome.Outcome.{accepted, refused}
use Rattle.jedec.specs.Rules.{Given, wrong_count, misplaced, not_given, finished}
use Rattle.jedec.specs.Meaning.{unless, wrong_sum, wrong_transmission, concluded, meaning}
use Rattle.jedec.specs.Form.{Counted, FirstMisplaced, CountedText, Refused9, LacksFuse, Refused13}
use Rattle.jedec.proofs.Conditions.{Not, not_refused, no_place, the_count, count_none, formed, form_means}
use Rattle.jedec.proofs.Misplaced.{misplaced_iff}
use Rattle.jedec.proofs.NotGiven.{not_given_iff}
use Rattle.jedec.proofs.States.{in_place_iff}

-- A refusal of one number is none of another, nor is what a rule of another number answers.
other_number : (n m at : ℕ) → (n ≡ m → ⊥) → Not n (refused m at)
other_number n m at other v e = let same : n ≡ m = cc in other same

other_rule : (n m : ℕ) (o : Option ℕ) (answer : Outcome (List ℕ)) → (n ≡ m → ⊥) → Not n answer → Not n (unless m o answer)
other_rule n m none answer other never = never
other_rule n m (some at) answer other never = other_number n m at other

-- A refusal comes from the rule of its number, if what stands behind that rule gives none of that number.
own_rule : (n : ℕ) (o : Option ℕ) (answer : Outcome (List ℕ)) (value : ℕ) → Not n answer → unless n o answer ≡ refused n value
    → o ≡ some value
own_rule n (some v) answer value never e = let same : v ≡ value = cc in rw same
own_rule n none answer value never e = absurd (never value (sym e))

-- What the rules up to a refusal say of the fields.
module _ (fuses : ℕ) (text : List ℕ) (etx sum : ℕ) (k : Given) (value : ℕ) where
  abbrev by_11 : Outcome (List ℕ)
  by_11 = unless 11 (wrong_transmission text etx sum) (accepted (finished fuses k))

  after_13 : (n : ℕ) → (n ≡ 10 → ⊥) → (n ≡ 11 → ⊥) → Not n (unless 10 (wrong_sum (finished fuses k) k.sum) by_11)
  after_13 n ten eleven =
      other_rule n 10 (wrong_sum (finished fuses k) k.sum) by_11 ten
      (other_rule n 11 (wrong_transmission text etx sum) (accepted (finished fuses k)) eleven (not_refused n (finished fuses k)))

  past_8 : (n : ℕ) → (8 ≡ n → ⊥) → concluded fuses text etx sum k ≡ refused n value
      → Counted fuses k
      × (unless 9 (misplaced fuses 0 k.lists)
      (unless 13 (not_given fuses k.start k.lists) (unless 10 (wrong_sum (finished fuses k) k.sum) by_11))
      ≡ refused n value)
  unfolding concluded
  past_8 n other e =
      let p = no_place 8 (wrong_count fuses etx k.count) _ (refused n value) (other_number 8 n value other) e in
      (the_count fuses etx k p.0, p.1)

  nine : (concluded fuses text etx sum k ≡ refused 9 value) ↔ (Counted fuses k × FirstMisplaced fuses 0 k.lists value)
  unfolding concluded
  nine = (
    λ e.
        let p = past_8 9 (λ s. omega arith) e in
        let found =
        own_rule 9 (misplaced fuses 0 k.lists) _ value
        (other_rule 9 13 (not_given fuses k.start k.lists) _ (λ s. omega arith) (after_13 9 (λ s. omega arith) (λ s. omega arith)))
        p.1 in
        (p.0, (misplaced_iff fuses 0 k.lists value).0 found),
    λ h. rw (count_none fuses etx k h.0, (misplaced_iff fuses 0 k.lists value).1 h.1),
  )

  thirteen : (concluded fuses text etx sum k ≡ refused 13 value) ↔ (Counted fuses k × LacksFuse fuses value k)
  unfolding concluded
  thirteen = (
    λ e.
        let p = past_8 13 (λ s. omega arith) e in
        let q =
        no_place 9 (misplaced fuses 0 k.lists) _ (refused 13 value) (other_number 9 13 value (λ s. omega arith)) p.1 in
        let found =
        own_rule 13 (not_given fuses k.start k.lists) _ value (after_13 13 (λ s. omega arith) (λ s. omega arith)) q.1 in
        let m = (not_given_iff fuses k.lists k.start value).0 found in (
          p.0,
          record {
            in_place = (in_place_iff fuses 0 k.lists).0 q.0;
            no_start = m.0;
            below = m.1;
            first_not_given_lem = m.2;
          },
        ),
    λ (c, h).
        rw (
          count_none fuses etx k c,
          (in_place_iff fuses 0 k.lists).1 h.in_place,
          (not_given_iff fuses k.lists k.start value).1 (h.no_start, h.below, h.first_not_given_lem),
        ),
  )

-- Such a refusal of a text is one of its fields at the end, and the text is then of good form.
module _ (fuses : ℕ) (text : List ℕ) (n value : ℕ) (Holds : Given → Type 0) (not-7 : 7 ≡ n → ⊥)
    (at_end : (etx sum : ℕ) (k : Given) → (concluded fuses text etx sum k ≡ refused n value) ↔ (Counted fuses k × Holds k)) where
  by_fields : (meaning fuses text ≡ refused n value) ↔ CountedText fuses text Holds
  by_fields = (
    λ e.
        let f = formed fuses text (refused n value) (other_number 7 n value not-7) e in
        let h = (at_end f.etx_offset f.sum f.gives).0 f.end_answer in
        record {
          gives = f.gives;
          etx_offset = f.etx_offset;
          sum = f.sum;
          form = f.form;
          counted = h.0;
          holds = h.1;
        },
    λ r.
        form_means fuses text r.gives r.etx_offset r.sum r.form
        ∙ (at_end r.etx_offset r.sum r.gives).1 (r.counted, r.holds),
  )

module _ (fuses : ℕ) (text : List ℕ) (value : ℕ) where
  pub refused_9_iff : (meaning fuses text ≡ refused 9 value) ↔ Refused9 fuses text value
  refused_9_iff =
      by_fields fuses text 9 value (λ k. FirstMisplaced fuses 0 k.lists value) (λ s. omega arith)
      (λ etx sum k. nine fuses text etx sum k value)

  pub refused_13_iff : (meaning fuses text ≡ refused 13 value) ↔ Refused13 fuses text value
  refused_13_iff =
      by_fields fuses text 13 value (LacksFuse fuses value) (λ s. omega arith) (λ etx sum k. thirteen fuses text etx sum k value)
