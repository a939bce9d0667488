-- The first fuse that no L gives, after one L more.
-- Assumes nothing. `GivenBelow` stands in the definitions of `jedec_progress`.
use mathlib.Core.Path.{◌≡◌, refl}
use mathlib.Core.Logic.{inl, inr}
use mathlib.Core.Bool.{Bool, true, false, cond}
use mathlib.Core.List.{List, [], ◌∷◌, ◌++◌}
use mathlib.Core.Option.Option.{none}
use Prim.Native.Nat.{ℕ, ◌≤◌}
use native.Mathlib.Omega.{arith}
use lib.Dec.{eqb}
use borrow.Author.Tests.{eqb-true, eqb-false}
use Rattle.part.proofs.Facts.{compared}
use Rattle.jedec.specs.Rules.{Listed, end_of, misplaced}
use Rattle.jedec.specs.Form.{last_end, Inside, Each, Outside}
use Rattle.jedec.proofs.Lists.{each_more, any_more, any_last}
use Rattle.jedec.proofs.States.{placed}
use Rattle.jedec_image.proofs.ListedImages.{last_more, ends_rise}
use Rattle.jedec_progress.specs.Progress.{missing_after, GivenBelow}

-- A fuse at or after the end of the last L is outside each.
behind : (fuses end : ℕ) (lists : List Listed) → misplaced fuses end lists ≡ none → (fuse : ℕ) → last_end end lists ≤ fuse
    → Each (Outside fuse) lists
unfolding last_end
behind fuses end [] e fuse h = tt
behind fuses end (a ∷ lists) e fuse h =
    let p = placed fuses end a lists e in
    (inr (omega (arith, ends_rise fuses (end_of a) lists p.2)), behind fuses (end_of a) lists p.2 fuse h)

module _ (fuses : ℕ) (lists : List Listed) (l : Listed) (in_place : misplaced fuses 0 lists ≡ none) (later : last_end 0 lists ≤ l.first)
    (before : ℕ) (b : GivenBelow before lists) where
  ends : last_end 0 (lists ++ (l ∷ [])) ≡ end_of l
  ends = last_more fuses l 0 lists

  -- An L that starts at the fuse gives it, and those behind it up to its end.
  moved : l.first ≡ before → GivenBelow (end_of l) (lists ++ (l ∷ []))
  moved here =
      record {
        first =
            record {
              in_none = each_more (Outside (end_of l)) l lists (behind fuses 0 lists in_place (end_of l) (omega arith)) (inr (omega arith));
              lower_given = λ fuse h.
                  compared fuse before
                  (λ low. any_more (Inside fuse) l lists (b.first.lower_given fuse low))
                  (λ high. any_last (Inside fuse) l lists (omega arith, h));
            };
        at_most = omega (arith, ends);
      }

  -- An L that starts elsewhere starts behind it.
  stayed : (l.first ≡ before → ⊥) → GivenBelow before (lists ++ (l ∷ []))
  stayed other =
      record {
        first =
            record {
              in_none = each_more (Outside before) l lists b.first.in_none (inl (omega (arith, b.at_most)));
              lower_given = λ fuse h. any_more (Inside fuse) l lists (b.first.lower_given fuse h);
            };
        at_most = omega (arith, ends, b.at_most);
      }

  pub given_below : GivenBelow (missing_after before l.first (end_of l)) (lists ++ (l ∷ []))
  given_below = go (eqb l.first before) refl
    where
      go : (t : Bool) → eqb l.first before ≡ t → GivenBelow (cond t (end_of l) before) (lists ++ (l ∷ []))
      go true e = moved (eqb-true l.first before e)
      go false e = stayed (eqb-false l.first before e)
