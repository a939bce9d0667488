-- `judge_field` meets its contract: STX or ETX makes a field bad.
-- Assumes nothing.
use mathlib.Core.Path.{◌≡◌, sym, ◌∙◌}
use mathlib.Core.Bool.{Bool, true, false}
use mathlib.Core.List.{List}
use Prim.Native.Nat.{ℕ}
use lib.ListN.{drop}
use Rattle.jedec.specs.Cut.{holds_mark}
use Rattle.jedec.specs.Judge.{by_letters, judge}
use Rattle.jedec_judge.specs.Judged.{Says}
use Rattle.jedec_judge.specs.declared.FieldSays.{FieldSays}
use Rattle.jedec_judge.specs.declared.FieldSays.TheVariants.{Bad}
use borrow.Author.Rules.{rules}
use Rattle.jedec_judge.proofs.letters.judge_field.Goals as goal

module _ (field : List ℕ) (t : Bool) (e : t ≡ holds_mark field) where
  marked : t ≡ true → Says (drop 1 field) (judge field) Bad
  unfolding judge
  marked h = record { is = rw (sym e ∙ h); fits = tt }

  unmarked : (r : FieldSays) → t ≡ false → Says (drop 1 field) (by_letters field) r → Says (drop 1 field) (judge field) r
  unfolding judge
  unmarked r h s = record { is = s.is ∙ rw (sym e ∙ h); fits = s.fits }

pub returns-then-holds_mark : goal.returns-then-holds_mark
returns-then-holds_mark c = search (rules, marked)

pub returns : goal.returns
returns c = search (rules, unmarked)
