-- `next_judged` meets its contract: behind blanks stands the end of the text, ETX, or a field up to its `*`.
-- Assumes nothing.
use mathlib.Core.Path.{◌≡◌, sym, ◌∙◌}
use mathlib.Core.Bool.{true≢false}
use mathlib.Core.List.{List, ◌∷◌}
use Prim.Native.Nat.{ℕ, zero, suc, ◌+◌, ◌-◌, ◌^◌, ◌<◌}
use native.Mathlib.Omega.{arith}
use native.Mathlib.Numerals.{add-one}
use lib.ListN.{length, get_or, take, drop, length-drop}
use lib.Seq.{drop-cons}
use borrow.Author.Rules.{rules}
use borrow.Author.Tests.{ne_eqb}
use Rattle.std.specs.Prelude.{Option, Some, None}
use Rattle.jedec.specs.Cut.{blanks_before, holds_mark}
use Rattle.jedec.specs.Judge.{judge}
use Rattle.jedec_judge.specs.Judged.{NoGoodList}
use Rattle.jedec_judge.specs.declared.FieldSays.TheVariants as says
use Rattle.jedec_judge.proofs.Slices.{rest_whole}
use Rattle.jedec_fields.specs.Fields.{until_star, ListAt, NoList, ListStands, Stands}
use Rattle.jedec_fields.specs.declared.lists.ListField.{ListField}
use Rattle.jedec_fields.specs.declared.NextSays.TheVariants.{Field}
use Rattle.jedec_fields.proofs.Fields.{nothing_left, the_end, no_star, a_field}
use Rattle.jedec_fields.proofs.scan.next_judged.Goals as goal
use Rattle.jedec_fields.proofs.scan.next_judged.Goals.{then-b-eq76+in_default, else-b-eq76}

-- An L field is told by what follows the L.
module _ (text : List ℕ) (start : ℕ) (l : start < length text) (b : get_or text start 0 ≡ 76) (o : Option ListField)
    (g : ListStands (take (length text - (start + 1)) (drop (start + 1) text)) o) where
  first_there : drop start text ≡ 76 ∷ drop (suc start) text
  first_there = drop-cons text start 0 l ∙ rw b

  stands : ListStands (drop (suc start) text) o
  stands = rw (rest_whole (start + 1) text, add-one start) at g

  module _ (f : ListField) (w : o ≡ Some f) where
    found : ListAt (drop (suc start) text) f
    found = rw w at stands

    star_small : length text < 2 ^ 64 → start + 1 + f.length < 2 ^ 64
    star_small h = omega (arith, found.inside, length-drop (suc start) text)

    good_list : (at : ℕ) → start ≡ at + blanks_before (drop at text) → (get_or text start 0 ≡ 3 → ⊥)
        → Stands text at (Some (Field start (start + 1 + f.length) (says.List f.says)))
    unfolding judge holds_mark until_star
    good_list at e m =
        let inside : start + 1 + f.length < length text = omega (arith, found.inside, length-drop (suc start) text) in
        let size : start + 1 + f.length - start ≡ suc f.length = omega arith in
        let until : start + 1 + f.length ≡ start + until_star (drop start text) = rw (first_there, found.until) (omega arith) in
        a_field text at start e l m (start + 1 + f.length) until inside (says.List f.says)
        (rw (size, first_there, found.unmarked) found.says)

  bad_list : (star : ℕ) → star ≡ start + until_star (drop start text) → star < length text → o ≡ None
      → NoGoodList (take (star - start) (drop start text))
  unfolding until_star
  bad_list star s h w =
      let after = drop (suc start) text in
      let none_there : NoList after = rw w at stands in
      let size : star - start ≡ suc (until_star after) = omega (arith, rw first_there at s) in
      λ f. rw (size, first_there) (none_there.is_bad (omega (arith, length-drop (suc start) text)))

-- A field of another letter is no L field.
other_letter : (text : List ℕ) (start k : ℕ) → start < length text → (get_or text start 0 ≡ 76 → ⊥)
    → NoGoodList (take k (drop start text))
other_letter text start zero l n f = absurd (true≢false (sym f))
other_letter text start (suc k) l n f =
    absurd (true≢false (sym (rw (drop-cons text start 0 l) at f) ∙ ne_eqb (get_or text start 0) 76 n))

pub returns-in_err-start : goal.returns-in_err-start
returns-in_err-start c = rw c.from_residual.ensures (search (rules, nothing_left, c.in_err-start.ensures))

pub returns-then-b-eq-ETX : goal.returns-then-b-eq-ETX
returns-then-b-eq-ETX c = search (rules, the_end, c.in_ok-start.ensures)

pub returns-in-Some : goal.returns-in-Some
returns-in-Some c = search (rules, good_list, c.in_ok-start.ensures)

pub returns-in_err-star : goal.returns-in_err-star
returns-in_err-star c =
    rw c.from_residual-in_err-star.ensures (search (rules, no_star, c.in_ok-start.ensures, c.in_err-star.ensures))

pub judge_field-says-requires : goal.judge_field-says-requires
judge_field-says-requires c =
    elim c.if-b-eq76.branch [
      | then-b-eq76+in_default w ↦ search (rules, bad_list, c.in_ok-start.ensures, c.in_ok-star.ensures)
      | else-b-eq76 w ↦ search (rules, other_letter, c.in_ok-start.ensures)
    ]

pub returns : goal.returns
returns c = search (rules, a_field, c.in_ok-start.ensures, c.in_ok-star.ensures)
