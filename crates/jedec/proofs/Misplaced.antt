-- The first L that is out of place, in plain terms: `FirstMisplaced` in specs/Form.antt.
-- Assumes nothing.
use mathlib.Core.Path.{◌≡◌, refl, ap}
use mathlib.Core.Logic.{◌↔◌, inl, inr}
use mathlib.Core.List.{List, [], ◌∷◌, ◌++◌}
use mathlib.Core.Option.Option.{some}
use Prim.Native.Nat.{ℕ, ◌≤◌}
use native.Mathlib.Omega.{arith}
use borrow.Author.Tests.{lt-ltb, le-ltb}
use Rattle.part.proofs.Facts.{compared}
use Rattle.jedec.specs.Rules.{Listed, end_of, misplaced}
use Rattle.jedec.specs.Form.{InPlace, last_end, OutOfPlace, FirstMisplaced}

module _ (fuses : ℕ) where
  -- Where the first L is out of place, the refusal names it.
  named : (end : ℕ) (l : Listed) (lists : List Listed) → OutOfPlace fuses end l → misplaced fuses end (l ∷ lists) ≡ some l.at
  unfolding misplaced
  named end l lists (inl early) = rw (lt-ltb l.first end early)
  named end l lists (inr past) =
      compared l.first end (λ early. rw (lt-ltb l.first end early))
      (λ late. rw (le-ltb l.first end late, lt-ltb fuses (end_of l) past))

  -- The first of several is out of place, or it is in place and the first out of place is one of the others.
  here : (end : ℕ) (l : Listed) (lists : List Listed) (at : ℕ) → misplaced fuses end (l ∷ lists) ≡ some at → OutOfPlace fuses end l
      → FirstMisplaced fuses end (l ∷ lists) at
  unfolding last_end
  here end l lists at e out =
      let same : some l.at ≡ some at = rw (named end l lists out) at e in
      record { before = []; found = l; behind = lists; all_lists = refl; before_in_place = tt; out_of_place = out; found_start = cc }

  later : (end : ℕ) (l : Listed) (lists : List Listed) (at : ℕ) → end ≤ l.first → end_of l ≤ fuses
      → FirstMisplaced fuses (end_of l) lists at
      → FirstMisplaced fuses end (l ∷ lists) at
  unfolding last_end
  later end l lists at late fits f =
      record {
        before = l ∷ f.before;
        found = f.found;
        behind = f.behind;
        all_lists = ap (λ (others : List Listed). l ∷ others) f.all_lists;
        before_in_place = (late, fits, f.before_in_place);
        out_of_place = f.out_of_place;
        found_start = f.found_start;
      }

  first_of : (end : ℕ) (lists : List Listed) (at : ℕ) → misplaced fuses end lists ≡ some at → FirstMisplaced fuses end lists at
  unfolding misplaced
  first_of end [] at e = let z : ◌≡◌ {A = ℕ} 0 1 = cc in absurd (omega arith)
  first_of end (l ∷ lists) at e =
      compared l.first end
      (λ early. here end l lists at e (inl early))
      (λ late.
      compared fuses (end_of l)
      (λ past. here end l lists at e (inr past))
      (λ fits. later end l lists at late fits
      (first_of (end_of l) lists at (rw (le-ltb l.first end late, le-ltb fuses (end_of l) fits) at e))))

  of_first : (end : ℕ) (before : List Listed) (found : Listed) (behind : List Listed) → InPlace fuses end before
      → OutOfPlace fuses (last_end end before) found → misplaced fuses end (before ++ (found ∷ behind)) ≡ some found.at
  unfolding misplaced last_end
  of_first end [] found behind p out = named end found behind out
  of_first end (l ∷ before) found behind p out =
      rw (le-ltb l.first end p.0, le-ltb fuses (end_of l) p.1) (of_first (end_of l) before found behind p.2 out)

  pub misplaced_iff : (end : ℕ) (lists : List Listed) (at : ℕ) → (misplaced fuses end lists ≡ some at) ↔ FirstMisplaced fuses end lists at
  misplaced_iff end lists at = (
    first_of end lists at,
    λ f. rw (f.all_lists, ← f.found_start) (of_first end f.before f.found f.behind f.before_in_place f.out_of_place),
  )
