-- What holds of each or of some of several Ls, and of one L more.
-- Assumes nothing. `Each` and `Any` stand in specs/Form.antt.
use mathlib.Core.Logic.{inl, inr}
use mathlib.Core.List.{List, [], ◌∷◌, ◌++◌}
use Rattle.jedec.specs.Rules.{Listed}
use Rattle.jedec.specs.Form.{Any, Each}

module _ (P : Listed → Type 0) (l : Listed) where
  pub each_more : (lists : List Listed) → Each P lists → P l → Each P (lists ++ (l ∷ []))
  each_more [] e h = (h, tt)
  each_more (a ∷ lists) e h = (e.0, each_more lists e.1 h)

  pub any_more : (lists : List Listed) → Any P lists → Any P (lists ++ (l ∷ []))
  any_more [] x' = elim x' [ ]
  any_more (a ∷ lists) (inl h) = inl h
  any_more (a ∷ lists) (inr h) = inr (any_more lists h)

  pub any_last : (lists : List Listed) → P l → Any P (lists ++ (l ∷ []))
  any_last [] h = inl h
  any_last (a ∷ lists) h = inr (any_last lists h)
