-- What the fields of a text gave so far, which field may stand after them, and what a field adds.
-- No list of states is kept: they are put into the image that the reader makes.
use Rattle.std.specs.Prelude.{ℕ, ◌+◌, ◌≤◌, ◌<◌, ◌≡◌, Bool, true, false, cond, not, ◌&&◌, ◌||◌, List, eqb, ltb, unwrap_or}
use Rattle.std.specs.Prelude as code
use Rattle.std.proofs.Math.Option.{Option}
use Rattle.std.proofs.Math.Option.Option.{none, some}
use Rattle.jedec.specs.Form.{last_end, FirstNotGiven}
use Rattle.jedec.specs.Rules.{At, Listed, Given, has, has_any, misplaced, start_state, state_given, image_with}
use Rattle.jedec.specs.Meaning.{longest}
use Rattle.jedec_judge.specs.declared.FieldSays.{FieldSays}
use Rattle.jedec_judge.specs.declared.FieldSays.TheVariants as says
use Rattle.jedec_judge.specs.Judged.{number_read}
use Rattle.jedec_progress.specs.declared.progress.GivenAt.{GivenAt}
use Rattle.jedec_progress.specs.declared.progress.Progress.{Progress}

-- The number of a field with the offset of the field, and a number, as crate `jedec` has them.
abbrev pub optional_field : code.Option GivenAt → Option At
optional_field code.None = none
optional_field (code.Some g) = some (record { at = g.at; value = g.value })

abbrev pub optional_number : code.Option ℕ → Option ℕ
optional_number = number_read

-- What is known before any field.
abbrev pub no_progress : Progress
no_progress = record {
  count = code.None;
  start = code.None;
  end = code.None;
  misplaced = code.None;
  missing = 0;
  sum = code.None;
}

-- Which field may stand next, by what the fields before it gave.
abbrev pub may_stand : Progress → FieldSays → Bool
may_stand p (says.Count n) = not (has (optional_field p.count))
may_stand p (says.Start s) =
    has (optional_field p.count) && not (has (optional_number p.start)) && not (has (optional_number p.end))
may_stand p (says.List l) = has (optional_field p.count) && not (has (optional_field p.sum))
may_stand p (says.Sum x) = has (optional_field p.count) && not (has (optional_field p.sum))
may_stand p says.Skipped = true
may_stand p says.Bad = false

-- Where the first misplaced L starts, after one L more.
abbrev pub misplaced_after : (fuses : ℕ) → code.Option ℕ → (end at first number : ℕ) → code.Option ℕ
misplaced_after fuses (code.Some x) end at first number = code.Some x
misplaced_after fuses code.None end at first number =
    cond (ltb first end || ltb fuses (first + number)) (code.Some at) code.None

-- The first fuse that no L gives, after one L more.
abbrev pub missing_after : (before from end : ℕ) → ℕ
missing_after before from end = cond (eqb from before) end before

-- What is known after each of QF, F, L and C, and after any field.
abbrev pub with_count : Progress → (at n : ℕ) → Progress
with_count p at n = record p { count = code.Some (record { at = at; value = n }) }

abbrev pub with_start : Progress → (s : ℕ) → Progress
with_start p s = record p { start = code.Some s }

abbrev pub with_list : (fuses : ℕ) → Progress → (at first number : ℕ) → Progress
with_list fuses p at first number =
    record p {
      end = code.Some (first + number);
      misplaced = misplaced_after fuses p.misplaced (unwrap_or p.end 0) at first number;
      missing = missing_after p.missing first (first + number);
    }

abbrev pub with_sum : Progress → (at x : ℕ) → Progress
with_sum p at x = record p { sum = code.Some (record { at = at; value = x }) }

abbrev pub after_field : (fuses : ℕ) → Progress → (at : ℕ) → FieldSays → Progress
after_field fuses p at (says.Count n) = with_count p at n
after_field fuses p at (says.Start s) = with_start p s
after_field fuses p at (says.List l) = with_list fuses p at l.first l.count
after_field fuses p at (says.Sum x) = with_sum p at x
after_field fuses p at says.Skipped = p
after_field fuses p at says.Bad = p

-- An L field has no more states than a text has bytes.
abbrev pub FewStates : FieldSays → Type 0
FewStates (says.Count n) = Unit {0}
FewStates (says.Start s) = Unit {0}
FewStates (says.List l) = l.count ≤ longest
FewStates (says.Sum x) = Unit {0}
FewStates says.Skipped = Unit {0}
FewStates says.Bad = Unit {0}

-- A fuse is the first that no L gives, and does not lie behind the end of the last L.
pub record GivenBelow (fuse : ℕ) (lists : List Listed) : Type 0 where
  pub first : FirstNotGiven lists fuse
  pub at_most : fuse ≤ last_end 0 lists

-- What the reader knows is what the fields gave, and an image holds it unless an L is misplaced.
pub record ProgressKnows (fuses : ℕ) (p : Progress) (k : Given) (image : List ℕ) : Type 0 where
  pub count : optional_field p.count ≡ k.count
  pub start : optional_number p.start ≡ k.start
  pub listed : has (optional_number p.end) ≡ has_any k.lists
  pub end : unwrap_or p.end 0 ≡ last_end 0 k.lists
  pub faulty : optional_number p.misplaced ≡ misplaced fuses 0 k.lists
  pub missing : misplaced fuses 0 k.lists ≡ none → GivenBelow p.missing k.lists
  pub sum : optional_field p.sum ≡ k.sum
  pub bits : misplaced fuses 0 k.lists ≡ none → (fuse : ℕ) → state_given (start_state k.start) k.lists fuse < 2
  pub holds : misplaced fuses 0 k.lists ≡ none
      → image ≡ image_with fuses (state_given (start_state k.start) k.lists)
