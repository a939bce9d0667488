-- What is known of a report without its lines: it fits 64 bytes, and every text that is too long has the same one.
-- Assumes nothing.
use Rattle.std.proofs.Common.{◌≡◌, ℕ, ◌<◌, ◌≤◌, List, [], ◌++◌, Bool, true, false, arith, refl, sym, ap, ◌∙◌, subst, length, take, append-nil, length-append, length-take-le}
use Rattle.std.specs.Prelude.{cond, ltb, Option, None, Some, Ok, Err, IfSome, IsOk, OnOk}
use Rattle.part.specs.Answer.{number_outcome, refusal_number, refusal_value}
use Rattle.part.specs.declared.Refusal.{Refusal}
use Rattle.std.specs.declared.result.Result.{Result}
use Rattle.std.specs.Io.KnownBytes.{Appends, Consumes, IsAtEnd}
use borrow.Author.Tests.{le-ltb, lt-ltb, ltb-true, ltb-false}
use Rattle.part.specs.Outcome.Outcome.{accepted, refused}
use Rattle.report.specs.Report.{most, outcome_of, report_of, bytes_put}
use Rattle.report.proofs.Answers.{report_short}

-- A buffer of 64 bytes is never too short: no refusal is the answer, and so the answer is a number.
pub not_refused : (text buffer : List ℕ) (number value : ℕ) → length buffer ≡ 64 → refused number value ≡ bytes_put (report_of text) buffer
    → ⊥
not_refused text buffer number value l e =
    let short : length (report_of text) ≤ length buffer = omega (arith, l, report_short text) in
    let put : refused number value ≡ accepted (length (report_of text)) =
    e ∙ ap (λ t. cond t (refused 12 (length (report_of text))) (accepted (length (report_of text))))
    (le-ltb (length buffer) (length (report_of text)) short) in
    let z : ◌≡◌ {A = ℕ} 0 1 = cc in
    omega arith

pub always_put : (text buffer : List ℕ) (r : Result ℕ Refusal) → length buffer ≡ 64 → number_outcome r ≡ bytes_put (report_of text) buffer
    → IsOk r
always_put text buffer (Ok n) l e = refl
always_put text buffer (Err x) l e = absurd (not_refused text buffer (refusal_number x) (refusal_value x) l e)

-- Two texts that are too long have the same refusal.
long_outcome : (text : List ℕ) → 65536 < length text → outcome_of text ≡ refused 7 most
unfolding outcome_of
long_outcome text h = rw (lt-ltb most (length text) h) refl

pub same_report : (xs ys : List ℕ) → 65536 < length xs → 65536 < length ys → report_of xs ≡ report_of ys
unfolding report_of
same_report xs ys p q = rw (long_outcome xs p, long_outcome ys q) refl

-- The report of what was read is that of the whole input.
read_enough : (xs ys buffer : List ℕ) (n : ℕ) → length buffer ≡ 65537 → n ≤ length buffer → xs ≡ take n buffer ++ ys
    → (n < length buffer → ys ≡ [])
    → report_of (take n buffer) ≡ report_of xs
read_enough xs ys buffer n l fits e end = go (ltb n (length buffer)) refl
  where
    go : (t : Bool) → ltb n (length buffer) ≡ t → report_of (take n buffer) ≡ report_of xs
    go true f = ap report_of (sym (e ∙ ap (λ zs. take n buffer ++ zs) (end (ltb-true _ _ f)) ∙ append-nil _))
    go false f =
        let all : length (take n buffer) ≡ n = length-take-le n buffer fits in
        let full : 65536 < length (take n buffer) = omega (arith, all, l, ltb-false _ _ f) in
        same_report (take n buffer) xs full (rw (e, length-append (take n buffer) ys) (omega (arith, full)))

whole_input : (old new before after : Option (List ℕ)) (buffer : List ℕ) (n : ℕ) → length buffer ≡ 65537 → n ≤ length buffer
    → Consumes old new (take n buffer) → (n < length buffer → IsAtEnd new) → Appends before after (report_of (take n buffer))
    → IfSome old (λ text. Appends before after (report_of text))
whole_input None new before after buffer n l fits c end a = tt
whole_input (Some xs) None before after buffer n l fits c end a = absurd c
whole_input (Some xs) (Some ys) before after buffer n l fits c end a =
    subst (Appends before after) (read_enough xs ys buffer n l fits c end) a

-- The same of a call that may fail.
pub on_whole_input : {T E : Type 0} (r : Result T E) (old new before after : Option (List ℕ)) (buffer : List ℕ) (n : ℕ)
    → length buffer ≡ 65537
    → n ≤ length buffer → Consumes old new (take n buffer) → (n < length buffer → IsAtEnd new)
    → OnOk r (Appends before after (report_of (take n buffer))) → OnOk r (IfSome old (λ text. Appends before after (report_of text)))
on_whole_input (Ok v) old new before after buffer n l fits c end a = whole_input old new before after buffer n l fits c end a
on_whole_input (Err e) old new before after buffer n l fits c end a = tt
