-- `holds_mark` meets its contract: the marks found in the bytes one after another.
-- Assumes nothing.
use mathlib.Core.Path.{◌≡◌, sym, ◌∙◌}
use mathlib.Core.Bool.{Bool, false, ◌||◌, or_assoc, or-false}
use mathlib.Core.List.{List, [], ◌∷◌}
use Prim.Native.Nat.{ℕ}
use Rattle.std.specs.List.{fold}
use Rattle.std.proofs.Common.{rules}
use Rattle.std.proofs.lemmas.Iterator.{YieldsList-from_slice}
use Rattle.std.proofs.lemmas.Iterator.Consumers.{fold_from_yields_List}
use Rattle.jedec.specs.Characters.{is_mark}
use Rattle.jedec.specs.Cut.{holds_mark}
use Rattle.jedec_judge.proofs.holds_mark.Goals as goal

-- STX or ETX was found so far, or stands in the bytes still to come.
marks : (found : Bool) (bytes : List ℕ) → fold (λ t b. t || is_mark b) found bytes ≡ (found || holds_mark bytes)
unfolding holds_mark
marks found [] = sym (or-false found)
marks found (b ∷ bytes) = marks (found || is_mark b) bytes ∙ or_assoc found (is_mark b) (holds_mark bytes)

pub returns : goal.returns
returns c =
    let bytes = c.args.bytes.now in
    fold_from_yields_List _ (λ t b. t || is_mark b) _ _ c.fold.ensures.ran (YieldsList-from_slice bytes (search rules))
    (λ a x b q k. search rules)
    ∙ marks false bytes
