-- The first fuse that no L gives, in plain terms, and rule 13 by it.
-- Assumes nothing. `AllGiven` and `FirstNotGiven` stand in specs/Form.antt.
use mathlib.Core.Path.{◌≡◌, refl, sym, ◌∙◌}
use mathlib.Core.Logic.{◌↔◌, inl, inr}
use mathlib.Core.Bool.{Bool, true, false, not, ◌||◌, or-true, true≢false}
use mathlib.Core.List.{List, [], ◌∷◌}
use mathlib.Core.Option.{Option}
use mathlib.Core.Option.Option.{none, some}
use Prim.Native.Nat.{ℕ, ◌≤◌, ◌<◌}
use native.Mathlib.Omega.{arith}
use lib.Dec.{ltb, leb}
use borrow.Author.Tests.{ltb-true, lt-ltb, le-ltb, leb-true, le-leb, not-false, not-true}
use Rattle.part.specs.Lowest.{IsLowest}
use Rattle.part.proofs.Facts.{and_iff, compared, either}
use Rattle.part.proofs.Lowest.{lowest_iff}
use Rattle.jedec.specs.Rules.{Listed, end_of, inside, is_given, first_not_given, without_start, not_given}
use Rattle.jedec.specs.Form.{Any, Inside, AllGiven, Each, Outside, FirstNotGiven}

-- A fuse is in an L exactly if the test says so, and else outside it.
module _ (fuse : ℕ) where
  in_one : (l : Listed) → inside fuse l ≡ true → Inside fuse l
  in_one l e =
      let both = (and_iff (leb l.first fuse) (ltb fuse (end_of l))).0 e in
      (leb-true l.first fuse both.0, ltb-true fuse (end_of l) both.1)

  one_in : (l : Listed) → Inside fuse l → inside fuse l ≡ true
  one_in l h = rw (le-leb l.first fuse h.0, lt-ltb fuse (end_of l) h.1)

  not_in : (l : Listed) → inside fuse l ≡ false → Outside fuse l
  not_in l e =
      compared fuse l.first (λ m. inl m) (λ g.
      compared fuse (end_of l) (λ h. absurd (true≢false (sym (one_in l (g, h)) ∙ e))) (λ m. inr m))

  -- Some L gives the fuse, or none does.
  some_gives : (lists : List Listed) → is_given lists fuse ≡ true → Any (Inside fuse) lists
  unfolding is_given
  some_gives [] e = true≢false (sym e)
  some_gives (l ∷ lists) e =
      either (inside fuse l) (is_given lists fuse) e (λ here. inl (in_one l here)) (λ later. inr (some_gives lists later))

  given_some : (lists : List Listed) → Any (Inside fuse) lists → is_given lists fuse ≡ true
  unfolding is_given
  given_some [] x' = elim x' [ ]
  given_some (l ∷ lists) (inl here) = rw (one_in l here)
  given_some (l ∷ lists) (inr later) = rw (given_some lists later, or-true)

  none_gives : (lists : List Listed) → is_given lists fuse ≡ false → Each (Outside fuse) lists
  unfolding is_given
  none_gives [] e = tt
  none_gives (l ∷ lists) e = go (inside fuse l) refl e (none_gives lists)
    where
      go : (t : Bool) → inside fuse l ≡ t → (t || is_given lists fuse) ≡ false → (is_given lists fuse ≡ false → Each (Outside fuse) lists)
          → Outside fuse l × Each (Outside fuse) lists
      go true w h others = absurd (true≢false h)
      go false w h others = (not_in l w, others h)

  -- A fuse outside each L is in none.
  not_both : (lists : List Listed) → Each (Outside fuse) lists → Any (Inside fuse) lists → ⊥
  not_both [] _ x3 = elim x3 [ ]
  not_both (l ∷ lists) (inl m, o) (inl h) = omega (arith, h.0)
  not_both (l ∷ lists) (inr m, o) (inl h) = omega (arith, h.1)
  not_both (l ∷ lists) (m, o) (inr h) = not_both lists o h

  given_none : (lists : List Listed) → Each (Outside fuse) lists → is_given lists fuse ≡ false
  given_none lists o = go (is_given lists fuse) refl
    where
      go : (t : Bool) → is_given lists fuse ≡ t → t ≡ false
      go true e = absurd (not_both lists o (some_gives lists e))
      go false e = refl

module _ (fuses : ℕ) (lists : List Listed) where
  -- What is found, in plain terms.
  module _ (fuse : ℕ) (l : IsLowest (λ f. not (is_given lists f)) fuses fuse) where
    lower : AllGiven fuse lists
    lower f h = some_gives f lists (not-false (is_given lists f) (l.lower_fail f h))

    first : fuse < fuses → FirstNotGiven lists fuse
    first h = record { in_none = none_gives fuse lists (not-true (is_given lists fuse) (l.passes h)); lower_given = lower }

  found : IsLowest (λ f. not (is_given lists f)) fuses (first_not_given fuses lists)
  found = (lowest_iff (λ f. not (is_given lists f)) fuses (first_not_given fuses lists)).0 refl

  -- A fuse of which that holds is the one that is found.
  is_first : (fuse : ℕ) → fuse ≤ fuses → AllGiven fuse lists → (fuse < fuses → Each (Outside fuse) lists)
      → first_not_given fuses lists ≡ fuse
  is_first fuse h given out =
      (lowest_iff (λ f. not (is_given lists f)) fuses fuse).1
      (record {
        at_most = h;
        lower_fail = λ f l. rw (given_some f lists (given f l));
        passes = λ l. rw (given_none fuse lists (out l));
      })

  pub all_given_iff : (start : Option ℕ) → (not_given fuses start lists ≡ none) ↔ (start ≡ none → AllGiven fuses lists)
  all_given_iff (some s) = (λ e f. let z : ◌≡◌ {A = ℕ} 0 1 = cc in absurd (omega arith), λ h. refl)
  all_given_iff none = (
    λ e f fuse h.
        compared (first_not_given fuses lists) fuses
        (λ l. let bad : some (first_not_given fuses lists) ≡ none = rw (lt-ltb (first_not_given fuses lists) fuses l) at e in
        let z : ◌≡◌ {A = ℕ} 0 1 = cc in absurd (omega arith))
        (λ g. lower (first_not_given fuses lists) found fuse (omega arith)),
    λ h. rw (is_first fuses (omega arith) (h refl) (λ l. absurd (omega arith)), le-ltb fuses fuses (omega arith)),
  )

  pub not_given_iff : (start : Option ℕ) (fuse : ℕ)
      → (not_given fuses start lists ≡ some fuse) ↔ ((start ≡ none) × (fuse < fuses) × FirstNotGiven lists fuse)
  not_given_iff (some s) fuse = (
    λ e. let z : ◌≡◌ {A = ℕ} 0 1 = cc in absurd (omega arith),
    λ h. let bad : some s ≡ none = h.0 in let z : ◌≡◌ {A = ℕ} 0 1 = cc in absurd (omega arith),
  )
  not_given_iff none fuse = (
    λ e.
        compared (first_not_given fuses lists) fuses
        (λ l.
        let it : some (first_not_given fuses lists) ≡ some fuse = rw (lt-ltb (first_not_given fuses lists) fuses l) at e in
        let same : first_not_given fuses lists ≡ fuse = cc in
        (refl, rw same at l, rw same at (first (first_not_given fuses lists) found l)))
        (λ g. let bad : none ≡ some fuse = rw (le-ltb (first_not_given fuses lists) fuses g) at e in
        let z : ◌≡◌ {A = ℕ} 0 1 = cc in absurd (omega arith)),
    λ h.
        let f = h.2 in
        rw (is_first fuse (omega (arith, h.1)) f.lower_given (λ l. f.in_none), lt-ltb fuse fuses h.1),
  )

-- The rule by the first fuse that no L gives, however it was found, and however large it is.
pub by_first : (fuses : ℕ) (start : Option ℕ) (lists : List Listed) (fuse : ℕ) → FirstNotGiven lists fuse
    → not_given fuses start lists ≡ without_start fuses start fuse
by_first fuses (some s) lists fuse f = refl
by_first fuses none lists fuse f =
    compared fuse fuses
    (λ l. (not_given_iff fuses lists none fuse).1 (refl, l, f) ∙ rw (lt-ltb fuse fuses l))
    (λ g. (all_given_iff fuses lists none).1 (λ e given h. f.lower_given given (omega arith)) ∙ rw (le-ltb fuse fuses g))
