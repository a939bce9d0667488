-- A text is of good form or refused 7, and is accepted exactly if its count is right, its Ls are in place, every fuse is given by an F or
-- an L, and its sums are right too.
-- Assumes nothing. `GoodForm` and `Accepted` stand in specs/Form.antt.
use mathlib.Core.Path.{◌≡◌, refl, sym, ◌∙◌, ap}
use mathlib.Core.Logic.{◌↔◌, ◌⊎◌, inl, inr}
use mathlib.Core.Bool.{Bool, true, false, cond, ◌||◌}
use mathlib.Core.List.{List, [], ◌∷◌}
use mathlib.Core.Option.{Option}
use mathlib.Core.Option.Option.{none, some}
use Prim.Native.Nat.{ℕ, ◌+◌, ◌≤◌, ◌<◌}
use native.Mathlib.Omega.{arith}
use lib.Dec.{eqb, ltb}
use lib.ListN.{length, take, drop}
use borrow.Author.Tests.{ltb-false, lt-ltb, le-ltb, eqb-true, eq-eqb}
use Rattle.part.specs.Outcome.{Outcome}
use Rattle.part.specs.Outcome.Outcome.{accepted, refused}
use Rattle.part.proofs.Facts.{either}
use Rattle.image.specs.Image.{sum16}
use Rattle.jedec.specs.Characters.{stx}
use Rattle.jedec.specs.Cut.{pieces, starts_with, fields_from, holds_mark, Tail, tail_from}
use Rattle.jedec.specs.Cut.Tail.{given, wrong}
use Rattle.jedec.specs.Rules.{At, Given, nothing_given, Fields, all_fields, wrong_count, misplaced, not_given, finished}
use Rattle.jedec.specs.Rules.Fields.{all_good, bad_at}
use Rattle.jedec.specs.Meaning.{longest, unless, wrong_sum, wrong_transmission, concluded, with_tail, with_end, with_fields, of_pieces}
use Rattle.jedec.specs.Meaning.{meaning}
use Rattle.jedec.specs.Form.{Counted, Concluded, GoodForm, Accepted}
use Rattle.jedec.proofs.NotGiven.{all_given_iff}

-- An answer is no refusal of this number; an accepted text is none.
abbrev pub Not : (number : ℕ) → Outcome (List ℕ) → Type 0
Not number answer = (at : ℕ) → refused number at ≡ answer → ⊥

pub not_refused : (number : ℕ) (image : List ℕ) → Not number (accepted image)
not_refused number image at e = let z : ◌≡◌ {A = ℕ} 0 1 = cc in omega arith

-- What is not refused for a test passed it.
passed : (t : Bool) (n v : ℕ) (other answer : Outcome (List ℕ)) → Not n answer → cond t (refused n v) other ≡ answer
    → (t ≡ false) × (other ≡ answer)
passed true n v other answer never e = absurd (never v e)
passed false n v other answer never e = (refl, e)

was : (t : Bool) (n v : ℕ) (other answer : Outcome (List ℕ)) → Not n answer → cond t other (refused n v) ≡ answer
    → (t ≡ true) × (other ≡ answer)
was true n v other answer never e = (refl, e)
was false n v other answer never e = absurd (never v e)

pub no_place : (n : ℕ) (o : Option ℕ) (other answer : Outcome (List ℕ)) → Not n answer → unless n o other ≡ answer
    → (o ≡ none) × (other ≡ answer)
no_place n none other answer never e = (refl, e)
no_place n (some at) other answer never e = absurd (never at e)

-- No rule gives a place exactly if what it asks for holds.
pub the_count : (fuses etx : ℕ) (k : Given) → wrong_count fuses etx k.count ≡ none → Counted fuses k
the_count fuses etx k e = given_as k.count refl e
  where
    right : (q : At) (t : Bool) → eqb q.value fuses ≡ t → cond t none (some q.at) ≡ none → q.value ≡ fuses
    right q true w e = eqb-true q.value fuses w
    right q false w e = let z : ◌≡◌ {A = ℕ} 0 1 = cc in absurd (omega arith)

    given_as : (o : Option At) → k.count ≡ o → wrong_count fuses etx o ≡ none → Counted fuses k
    given_as none w e = let z : ◌≡◌ {A = ℕ} 0 1 = cc in absurd (omega arith)
    given_as (some q) w e = record { count_field = q; has_count = w; right_count = right q (eqb q.value fuses) refl e }

pub count_none : (fuses etx : ℕ) (k : Given) → Counted fuses k → wrong_count fuses etx k.count ≡ none
count_none fuses etx k c = rw (c.has_count, eq-eqb c.count_field.value fuses c.right_count)

the_sum : (image : List ℕ) (o : Option At) → wrong_sum image o ≡ none → (c : At) → o ≡ some c → c.value ≡ sum16 image
the_sum image none e c f = let z : ◌≡◌ {A = ℕ} 0 1 = cc in absurd (omega arith)
the_sum image (some b) e c f = let same : b ≡ c = cc in rw same at (go (eqb b.value (sum16 image)) refl e)
  where
    go : (t : Bool) → eqb b.value (sum16 image) ≡ t → cond t none (some b.at) ≡ none → b.value ≡ sum16 image
    go true w e = eqb-true b.value (sum16 image) w
    go false w e = let z : ◌≡◌ {A = ℕ} 0 1 = cc in absurd (omega arith)

sum_none : (image : List ℕ) (o : Option At) → ((c : At) → o ≡ some c → c.value ≡ sum16 image) → wrong_sum image o ≡ none
sum_none image none right = refl
sum_none image (some c) right = rw (eq-eqb c.value (sum16 image) (right c refl))

the_transmission : (text : List ℕ) (etx sum : ℕ) → wrong_transmission text etx sum ≡ none → (sum ≡ 0) ⊎ (sum ≡ sum16 (take (etx + 1) text))
the_transmission text etx sum e = go (eqb sum 0 || eqb sum (sum16 (take (etx + 1) text))) refl e
  where
    go : (t : Bool) → (eqb sum 0 || eqb sum (sum16 (take (etx + 1) text))) ≡ t → cond t none (some etx) ≡ none
        → (sum ≡ 0) ⊎ (sum ≡ sum16 (take (etx + 1) text))
    go true w e = either (eqb sum 0) (eqb sum (sum16 (take (etx + 1) text))) w (λ z. inl (eqb-true sum 0 z)) (λ s. inr (eqb-true sum _ s))
    go false w e = let z : ◌≡◌ {A = ℕ} 0 1 = cc in absurd (omega arith)

transmission_none : (text : List ℕ) (etx sum : ℕ) → (sum ≡ 0) ⊎ (sum ≡ sum16 (take (etx + 1) text)) → wrong_transmission text etx sum ≡ none
transmission_none text etx sum (inl z) = rw (eq-eqb sum 0 z)
transmission_none text etx sum (inr s) = go (eqb sum 0)
  where
    go : (t : Bool) → cond (t || eqb sum (sum16 (take (etx + 1) text))) none (some etx) ≡ none
    go true = refl
    go false = rw (eq-eqb sum (sum16 (take (etx + 1) text)) s)

-- The end answers with an image exactly if all that it asks for holds.
module _ (fuses : ℕ) (text image : List ℕ) (etx sum : ℕ) (k : Given) where
  conclusion : concluded fuses text etx sum k ≡ accepted image → Concluded fuses text image etx sum k
  unfolding concluded
  conclusion e =
      let eight = no_place 8 (wrong_count fuses etx k.count) _ (accepted image) (not_refused 8 image) e in
      let nine = no_place 9 (misplaced fuses 0 k.lists) _ (accepted image) (not_refused 9 image) eight.1 in
      let thirteen = no_place 13 (not_given fuses k.start k.lists) _ (accepted image) (not_refused 13 image) nine.1 in
      let ten = no_place 10 (wrong_sum (finished fuses k) k.sum) _ (accepted image) (not_refused 10 image) thirteen.1 in
      let eleven = no_place 11 (wrong_transmission text etx sum) _ (accepted image) (not_refused 11 image) ten.1 in
      let same : image ≡ finished fuses k = cc in
      record {
        counted = the_count fuses etx k eight.0;
        in_place = nine.0;
        all_given = (all_given_iff fuses k.lists k.start).0 thirteen.0;
        as_image = same;
        right_sum = λ c f. the_sum (finished fuses k) k.sum ten.0 c f ∙ ap sum16 (sym same);
        right_transmission = the_transmission text etx sum eleven.0;
      }

  concluding : Concluded fuses text image etx sum k → concluded fuses text etx sum k ≡ accepted image
  unfolding concluded
  concluding c =
      let given : not_given fuses k.start k.lists ≡ none = (all_given_iff fuses k.lists k.start).1 c.all_given in
      let sums : wrong_sum (finished fuses k) k.sum ≡ none =
      sum_none (finished fuses k) k.sum (λ x f. c.right_sum x f ∙ ap sum16 c.as_image) in
      rw (count_none fuses etx k c.counted, c.in_place, given, sums, transmission_none text etx sum c.right_transmission)
      (ap accepted (sym c.as_image))

-- A text that is not refused 7 is of good form, and means what its end answers.
pub record Formed (fuses : ℕ) (text : List ℕ) (answer : Outcome (List ℕ)) : Type 0 where
  pub gives : Given
  pub etx_offset : ℕ
  pub sum : ℕ
  pub form : GoodForm text gives etx_offset sum
  pub end_answer : concluded fuses text etx_offset sum gives ≡ answer

module _ (fuses : ℕ) (text : List ℕ) (answer : Outcome (List ℕ)) (not-7 : Not 7 answer) where
  -- The form is shown step by step, from the tail back to the first piece.
  record Ended (k : Given) (end : Option ℕ) : Type 0 where
    at : ℕ
    has : end ≡ some at
    sum : ℕ
    good_tail : tail_from (at + 1) 4 0 (drop (at + 1) text) ≡ given sum
    end_answer : concluded fuses text at sum k ≡ answer

  of_tail : (k : Given) (etx : ℕ) (t : Tail) → tail_from (etx + 1) 4 0 (drop (etx + 1) text) ≡ t → with_tail fuses text etx k t ≡ answer
      → Ended k (some etx)
  of_tail k etx (given sum) w e = record { at = etx; has = refl; sum = sum; good_tail = w; end_answer = e }
  of_tail k etx (wrong at) w e = absurd (not-7 at e)

  of_end : (k : Given) (end : Option ℕ) → with_end fuses text k end ≡ answer → Ended k end
  of_end k none e = absurd (not-7 (length text) e)
  of_end k (some etx) e = of_tail k etx (tail_from (etx + 1) 4 0 (drop (etx + 1) text)) refl e

  record Read (fields : Fields) (end : Option ℕ) : Type 0 where
    gives : Given
    good : fields ≡ all_good gives
    ended : Ended gives end

  of_fields : (end : Option ℕ) (fields : Fields) → with_fields fuses text end fields ≡ answer → Read fields end
  of_fields end (bad_at at) e = absurd (not-7 at e)
  of_fields end (all_good k) e = record { gives = k; good = refl; ended = of_end k end e }

  of_pieces_lem : length text ≤ longest → starts_with stx text ≡ true → (all : List (List ℕ)) → (pieces text).ended ≡ all
      → of_pieces fuses text all (pieces text).rest ≡ answer → Formed fuses text answer
  of_pieces_lem short stx-there [] w e = absurd (not-7 (length text) e)
  of_pieces_lem short stx-there (design ∷ ended) w e =
      let good = passed (holds_mark (drop 1 design)) 7 1 _ answer not-7 e in
      let cut = fields_from (length design + 1) ended (pieces text).rest in
      let r = of_fields cut.end (all_fields nothing_given cut.fields) good.1 in
      record {
        gives = r.gives;
        etx_offset = r.ended.at;
        sum = r.ended.sum;
        form =
            record {
              not_long = short;
              begins = stx-there;
              design = design;
              ended = ended;
              text_pieces = w;
              good_design = good.0;
              good_fields = r.good;
              has_etx = r.ended.has;
              good_tail = r.ended.good_tail;
            };
        end_answer = r.ended.end_answer;
      }

  pub formed : meaning fuses text ≡ answer → Formed fuses text answer
  unfolding meaning
  formed e =
      let short = passed (ltb longest (length text)) 7 longest _ answer not-7 e in
      let there = was (starts_with stx text) 7 0 _ answer not-7 short.1 in
      of_pieces_lem (ltb-false longest (length text) short.0) there.0 (pieces text).ended refl there.1

pub form_means : (fuses : ℕ) (text : List ℕ) (k : Given) (etxOffset sum : ℕ) → GoodForm text k etxOffset sum
    → meaning fuses text ≡ concluded fuses text etxOffset sum k
unfolding meaning
form_means fuses text k etxOffset sum f =
    rw (le-ltb longest (length text) f.not_long, f.begins, f.text_pieces, f.good_design, f.good_fields, f.has_etx, f.good_tail)

pub accepted_iff : (fuses : ℕ) (text image : List ℕ) → (meaning fuses text ≡ accepted image) ↔ Accepted fuses text image
accepted_iff fuses text image = (
  λ e.
      let f = formed fuses text (accepted image) (not_refused 7 image) e in
      record {
        gives = f.gives;
        etx_offset = f.etx_offset;
        sum = f.sum;
        form = f.form;
        concluded = conclusion fuses text image f.etx_offset f.sum f.gives f.end_answer;
      },
  λ a.
      form_means fuses text a.gives a.etx_offset a.sum a.form
      ∙ concluding fuses text image a.etx_offset a.sum a.gives a.concluded,
)

-- A text that is too long, and one that does not start with STX, are refused.
pub too_long : (fuses : ℕ) (text : List ℕ) → longest < length text → meaning fuses text ≡ refused 7 longest
unfolding meaning
too_long fuses text h = rw (lt-ltb longest (length text) h)

pub no_start : (fuses : ℕ) (text : List ℕ) → length text ≤ longest → starts_with stx text ≡ false → meaning fuses text ≡ refused 7 0
unfolding meaning
no_start fuses text h e = rw (le-ltb longest (length text) h, e)
