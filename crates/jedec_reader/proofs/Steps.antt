-- One field more: whether it may stand, that it fits the image, and that what is then known is what the fields gave.
-- Assumes nothing.
use mathlib.Core.Path.{◌≡◌, refl, sym, ◌∙◌}
use mathlib.Core.Bool.{Bool, true, false, cond, not, ◌&&◌, ◌||◌, or-true}
use mathlib.Core.List.{List, [], ◌∷◌, ◌++◌}
use mathlib.Core.Option.{Option}
use mathlib.Core.Option.Option.{none, some}
use Prim.Native.Nat.{ℕ, ◌+◌, ◌≤◌, ◌<◌}
use native.Mathlib.Omega.{arith}
use lib.Dec.{ltb}
use lib.ListN.{length, drop}
use borrow.Author.Tests.{lt-ltb, not-true}
use Rattle.part.proofs.Facts.{compared, and_iff}
use Rattle.jedec.specs.Rules.{Listed, Given, has, has_any, in_order, after, end_of, misplaced, start_state}
use Rattle.jedec_judge.specs.Judged.{states_of, judged_after, ListFits, SaysFits}
use Rattle.jedec_judge.specs.declared.FieldSays.{FieldSays}
use Rattle.jedec_judge.specs.declared.FieldSays.TheVariants as says
use Rattle.jedec.specs.Form.{last_end}
use Rattle.jedec_image.specs.States.{with_states, put_field, PutFits}
use Rattle.jedec_image.proofs.WrittenStates.{written_bits}
use Rattle.jedec_image.proofs.ListedImages.{Holds, start_holds, put_listed, last_more, last_placed, still_misplaced, now_misplaced}
use Rattle.jedec_progress.specs.Progress.{optional_number, may_stand, misplaced_after, after_field}
use Rattle.jedec_progress.specs.Progress.{ProgressKnows}
use Rattle.std.specs.Prelude as code
use Rattle.std.specs.Prelude.{unwrap_or}
use Rattle.jedec_judge.specs.declared.FuseList.{FuseList}
use Rattle.jedec_progress.specs.declared.progress.Progress.{Progress}
use Rattle.jedec_reader.proofs.GivenMore.{given_below}

pub in_order_lem : (fuses : ℕ) (p : Progress) (k : Given) (image rest : List ℕ) (s : FieldSays) → ProgressKnows fuses p k image
    → may_stand p s ≡ in_order k (judged_after rest s)
in_order_lem fuses p k image rest (says.Count n) g = rw g.count
in_order_lem fuses p k image rest (says.Start x) g = rw (g.count, g.start, g.listed)
in_order_lem fuses p k image rest (says.List l) g = rw (g.count, g.sum)
in_order_lem fuses p k image rest (says.Sum x) g = rw (g.count, g.sum)
in_order_lem fuses p k image rest says.Skipped g = refl
in_order_lem fuses p k image rest says.Bad g = refl

list_space : (fuses end at first number : ℕ) (before : code.Option ℕ)
    → misplaced_after fuses before end at first number ≡ code.None → first + number ≤ fuses
list_space fuses end at first number (code.Some x) e = let z : ◌≡◌ {A = ℕ} 0 1 = cc in absurd (omega arith)
list_space fuses end at first number code.None e =
    compared fuses (first + number)
    (λ l. let bad : code.Some at ≡ code.None = rw (lt-ltb fuses (first + number) l, or-true) at e in
    let z : ◌≡◌ {A = ℕ} 0 1 = cc in absurd (omega arith))
    (λ m. m)

pub put_fits : (fuses : ℕ) (p : Progress) (at : ℕ) (rest : List ℕ) (s : FieldSays) → SaysFits rest s
    → PutFits fuses rest s (after_field fuses p at s).misplaced
put_fits fuses p at rest (says.Count n) f = tt
put_fits fuses p at rest (says.Start x) f = f
put_fits fuses p at rest (says.List l) f =
    λ m. record { list = f; fits = list_space fuses (unwrap_or p.end 0) at l.first l.count p.misplaced m }
put_fits fuses p at rest (says.Sum x) f = tt
put_fits fuses p at rest says.Skipped f = tt
put_fits fuses p at rest says.Bad f = tt

none_listed : (lists : List Listed) → has_any lists ≡ false → lists ≡ []
none_listed [] e = refl
none_listed (l ∷ lists) e = let z : ◌≡◌ {A = ℕ} 0 1 = cc in absurd (omega arith)

any_listed : (lists : List Listed) (l : Listed) → true ≡ has_any (lists ++ (l ∷ []))
any_listed [] l = refl
any_listed (a ∷ lists) l = refl

no_number : (s : code.Option ℕ) → optional_number s ≡ none → s ≡ code.None
no_number code.None e = refl
no_number (code.Some x) e = let z : ◌≡◌ {A = ℕ} 0 1 = cc in absurd (omega arith)

-- One L field more is misplaced exactly if the reader finds it so.
module _ (fuses : ℕ) (lists : List Listed) (l : Listed) where
  faulty_after : (s : code.Option ℕ) (end : ℕ) → end ≡ last_end 0 lists → optional_number s ≡ misplaced fuses 0 lists
      → optional_number (misplaced_after fuses s end l.at l.first (length l.states)) ≡ misplaced fuses 0 (lists ++ (l ∷ []))
  faulty_after (code.Some x) end e f = sym (still_misplaced fuses l 0 lists x (sym f))
  faulty_after code.None end e f =
      rw e (go (ltb l.first (last_end 0 lists) || ltb fuses (end_of l))) ∙ sym (now_misplaced fuses l 0 lists (sym f))
    where
      go : (t : Bool) → optional_number (cond t (code.Some l.at) code.None) ≡ cond t (some l.at) none
      go true = refl
      go false = refl

  none_before : misplaced fuses 0 (lists ++ (l ∷ [])) ≡ none → misplaced fuses 0 lists ≡ none
  none_before e = go (misplaced fuses 0 lists) refl
    where
      go : (o : Option ℕ) → misplaced fuses 0 lists ≡ o → o ≡ none
      go none f = refl
      go (some x) f =
          let bad : some x ≡ none = sym (still_misplaced fuses l 0 lists x f) ∙ e in
          let z : ◌≡◌ {A = ℕ} 0 1 = cc in absurd (omega arith)

module _ (fuses : ℕ) (p : Progress) (k : Given) (image rest : List ℕ) (at : ℕ) (g : ProgressKnows fuses p k image) where
  abbrev After : FieldSays → Type 0
  After s =
      ProgressKnows fuses (after_field fuses p at s) (after k at (judged_after rest s))
      (put_field fuses rest s (after_field fuses p at s).misplaced image)

  start_after : (x : ℕ) → x < 2 → in_order k (judged_after rest (says.Start x)) ≡ true → After (says.Start x)
  start_after x f e =
      let last : not (has_any k.lists) ≡ true = ((and_iff (has k.count && not (has k.start)) (not (has_any k.lists))).0 e).1 in
      let empty : k.lists ≡ [] = none_listed k.lists (not-true (has_any k.lists) last) in
      record {
        count = g.count;
        start = refl;
        listed = g.listed;
        end = g.end;
        faulty = g.faulty;
        missing = g.missing;
        sum = g.sum;
        bits = λ m. rw empty (start_holds fuses x f).bits;
        holds = λ m. rw empty;
      }

  list_after : (s : FuseList) → ListFits rest s → After (says.List s)
  list_after s f =
      let l : Listed = record { at = at; first = s.first; states = states_of (drop s.skip rest) } in
      let faulty : optional_number (misplaced_after fuses p.misplaced (unwrap_or p.end 0) at s.first s.count)
      ≡ misplaced fuses 0 (k.lists ++ (l ∷ [])) =
      rw (← f.many) (faulty_after fuses k.lists l p.misplaced (unwrap_or p.end 0) g.end g.faulty) in
      let held : misplaced fuses 0 (k.lists ++ (l ∷ [])) ≡ none
      → Holds fuses (start_state k.start) (k.lists ++ (l ∷ [])) (with_states image s.first (states_of (drop s.skip rest))) =
      λ m.
      let before : misplaced fuses 0 k.lists ≡ none = none_before fuses k.lists l m in
      put_listed fuses (start_state k.start) k.lists l image (record { is = g.holds before; bits = g.bits before })
      (written_bits (drop s.skip rest) f.found) m before in
      record {
        count = g.count;
        start = g.start;
        listed = any_listed k.lists l;
        end = rw (← f.many) (sym (last_more fuses l 0 k.lists));
        faulty = faulty;
        missing = λ m.
            let before : misplaced fuses 0 k.lists ≡ none = none_before fuses k.lists l m in
            rw (← f.many)
            (given_below fuses k.lists l before (last_placed fuses l 0 k.lists before m).0 p.missing (g.missing before));
        sum = g.sum;
        bits = λ m. (held m).bits;
        holds = λ m. rw (no_number (misplaced_after fuses p.misplaced (unwrap_or p.end 0) at s.first s.count) (faulty ∙ m)) (held m).is;
      }

  pub given_after : (s : FieldSays) → SaysFits rest s → in_order k (judged_after rest s) ≡ true → After s
  given_after (says.Count n) f e =
      record {
        count = refl;
        start = g.start;
        listed = g.listed;
        end = g.end;
        faulty = g.faulty;
        missing = g.missing;
        sum = g.sum;
        bits = g.bits;
        holds = g.holds;
      }
  given_after (says.Start x) f e = start_after x f e
  given_after (says.List s) f e = list_after s f
  given_after (says.Sum x) f e =
      record {
        count = g.count;
        start = g.start;
        listed = g.listed;
        end = g.end;
        faulty = g.faulty;
        missing = g.missing;
        sum = refl;
        bits = g.bits;
        holds = g.holds;
      }
  given_after says.Skipped f e = g
  given_after says.Bad f e = g
