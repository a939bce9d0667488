-- The end of a text: what the reader answers, a refusal of 8, 9, 13, 10 or 11 or the image, is what the text means.
-- A law is named by its refusal, and `last_test` says that the image is the text's where nothing is wrong.
use mathlib.Core.Path.{◌≡◌, refl, sym, ◌∙◌, ap}
use mathlib.Core.List.{List}
use mathlib.Core.Option.{Option}
use mathlib.Core.Option.Option.{none, some}
use Prim.Native.Nat.{ℕ}
use native.Mathlib.Omega.{arith}
use Rattle.std.specs.Prelude.{Result, Ok, Err}
use Rattle.std.specs.Result.{IsErrAnd}
use Rattle.part.specs.Answer.{refusal_number, refusal_value, done_outcome}
use Rattle.part.specs.Outcome.{Outcome}
use Rattle.part.specs.Outcome.Outcome.{accepted, refused}
use Rattle.part.specs.declared.Refusal.{Refusal}
use Rattle.jedec.specs.Rules.{Given, wrong_count, misplaced, without_start, not_given, finished}
use Rattle.jedec.specs.Meaning.{unless, wrong_sum, wrong_transmission, concluded}
use Rattle.jedec.proofs.NotGiven.{by_first}
use Rattle.jedec_progress.specs.Progress.{optional_field, optional_number}
use Rattle.jedec_progress.specs.Progress.{ProgressKnows}
use Rattle.jedec_end.specs.End.{TextRead}
use Rattle.jedec_progress.specs.declared.progress.Progress.{Progress}

pub refused_reads : (o : Outcome (List ℕ)) (number value : ℕ) (image : List ℕ) → o ≡ refused number value
    → TextRead o (refused number value) image
refused_reads o number value image e =
    record { answers = rw e; holds = λ h. let z : ◌≡◌ {A = ℕ} 0 1 = cc in absurd (omega arith) }

-- The same of an answer that passes on a refusal by `?`.
passed_on : (o : Outcome (List ℕ)) (r : Result (Unit {0}) Refusal) (x : Refusal) (image : List ℕ) → IsErrAnd r (λ z. z ≡ x)
    → o ≡ refused (refusal_number x) (refusal_value x) → TextRead o (done_outcome r) image
passed_on o (Ok z) x image h e = elim h [ ]
passed_on o (Err z) x image h e =
    refused_reads o (refusal_number z) (refusal_value z) image
    (e ∙ ap (λ (w : Refusal). refused (refusal_number w) (refusal_value w)) (sym h))

-- What a test that accepts says, and one that refuses.
abbrev pub right : Outcome (Unit {0})
right = accepted tt

nothing_at : (number : ℕ) (o : Option ℕ) → right ≡ unless number o right → o ≡ none
nothing_at number none e = refl
nothing_at number (some x) e = let z : ◌≡◌ {A = ℕ} 0 1 = cc in absurd (omega arith)

something_at : (number : ℕ) (o : Option ℕ) (n v : ℕ) (rest : Outcome (List ℕ)) → refused n v ≡ unless number o right
    → unless number o rest ≡ refused n v
something_at number none n v rest e = let z : ◌≡◌ {A = ℕ} 0 1 = cc in absurd (omega arith)
something_at number (some x) n v rest e =
    let same : n ≡ number = cc in
    let value : v ≡ x = cc in
    rw (same, value)

module _ (fuses : ℕ) (text : List ℕ) (etx sum : ℕ) (p : Progress) (image : List ℕ) where
  abbrev pub Concludes : Outcome (Unit {0}) → Type 0
  Concludes answer = (k : Given) → ProgressKnows fuses p k image → TextRead (concluded fuses text etx sum k) answer image

  module _ (r : Result (Unit {0}) Refusal) (x : Refusal) (h : IsErrAnd r (λ z. z ≡ x)) where
    abbrev refusal : Outcome (Unit {0})
    refusal = refused (refusal_number x) (refusal_value x)

    pub eight : refusal ≡ unless 8 (wrong_count fuses etx (optional_field p.count)) right → Concludes (done_outcome r)
    unfolding concluded
    eight e k g = passed_on _ r x image h (rw (← g.count) (something_at 8 _ (refusal_number x) (refusal_value x) _ e))

  module _ (one : right ≡ unless 8 (wrong_count fuses etx (optional_field p.count)) right) where
    right_count : (k : Given) → ProgressKnows fuses p k image → wrong_count fuses etx k.count ≡ none
    right_count k g = rw (← g.count) (nothing_at 8 _ one)

    module _ (r : Result (Unit {0}) Refusal) (x : Refusal) (h : IsErrAnd r (λ z. z ≡ x)) where
      pub nine : refusal r x h ≡ unless 9 (optional_number p.misplaced) right → Concludes (done_outcome r)
      unfolding concluded
      nine e k g =
          passed_on _ r x image h
          (rw (right_count k g, ← g.faulty) (something_at 9 _ (refusal_number x) (refusal_value x) _ e))

    module _ (two : right ≡ unless 9 (optional_number p.misplaced) right) where
      in_place : (k : Given) → ProgressKnows fuses p k image → misplaced fuses 0 k.lists ≡ none
      in_place k g = sym g.faulty ∙ nothing_at 9 _ two

      given_there : (k : Given) → ProgressKnows fuses p k image
          → not_given fuses k.start k.lists ≡ without_start fuses (optional_number p.start) p.missing
      given_there k g = by_first fuses k.start k.lists p.missing (g.missing (in_place k g)).first ∙ rw (← g.start)

      module _ (r : Result (Unit {0}) Refusal) (x : Refusal) (h : IsErrAnd r (λ z. z ≡ x)) where
        pub thirteen : refusal r x h ≡ unless 13 (without_start fuses (optional_number p.start) p.missing) right
            → Concludes (done_outcome r)
        unfolding concluded
        thirteen e k g =
            passed_on _ r x image h
            (rw (right_count k g, in_place k g, given_there k g)
            (something_at 13 _ (refusal_number x) (refusal_value x) _ e))

      module _ (three : right ≡ unless 13 (without_start fuses (optional_number p.start) p.missing) right) where
        none_missing : (k : Given) → ProgressKnows fuses p k image → not_given fuses k.start k.lists ≡ none
        none_missing k g = given_there k g ∙ nothing_at 13 _ three

        sum_there : (k : Given) → ProgressKnows fuses p k image
            → wrong_sum (finished fuses k) k.sum ≡ wrong_sum image (optional_field p.sum)
        sum_there k g = rw (← g.holds (in_place k g), ← g.sum)

        module _ (r : Result (Unit {0}) Refusal) (x : Refusal) (h : IsErrAnd r (λ z. z ≡ x)) where
          pub ten : refusal r x h ≡ unless 10 (wrong_sum image (optional_field p.sum)) right → Concludes (done_outcome r)
          unfolding concluded
          ten e k g =
              passed_on _ r x image h
              (rw (right_count k g, in_place k g, none_missing k g, sum_there k g)
              (something_at 10 _ (refusal_number x) (refusal_value x) _ e))

        module _ (four : right ≡ unless 10 (wrong_sum image (optional_field p.sum)) right) where
          right_sum : (k : Given) → ProgressKnows fuses p k image → wrong_sum (finished fuses k) k.sum ≡ none
          right_sum k g = sum_there k g ∙ nothing_at 10 _ four

          -- The last test, whose answer is the text's.
          pub last_test : (answer : Outcome (Unit {0})) → answer ≡ unless 11 (wrong_transmission text etx sum) right
              → Concludes answer
          unfolding concluded
          last_test answer e k g =
              rw e (go (wrong_transmission text etx sum) refl)
            where
              go : (o : Option ℕ) → wrong_transmission text etx sum ≡ o
                  → TextRead (concluded fuses text etx sum k) (unless 11 o right) image
              go none f =
                  let whole : concluded fuses text etx sum k ≡ accepted (finished fuses k) =
                  rw (right_count k g, in_place k g, none_missing k g, right_sum k g, f) in
                  record { answers = rw whole; holds = λ h. g.holds (in_place k g) ∙ rw whole }
              go (some at) f =
                  refused_reads _ 11 at image (rw (right_count k g, in_place k g, none_missing k g, right_sum k g, f))
