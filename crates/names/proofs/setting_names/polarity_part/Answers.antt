-- `polarity_part` meets its contract: a space and a letter.
-- Assumes nothing.
use Rattle.cells.specs.Cells.{cut}
use borrow.Author.Rules.{rules}
use mathlib.Core.Path.{refl}
use Rattle.names.proofs.setting_names.polarity_part.Goals as goal

pub returns-in-P : goal.returns-in-P
unfolding cut
returns-in-P c = rw c.in-P.is (record { few = search rules; alone = search rules; text_is = refl })

pub returns-in-N : goal.returns-in-N
unfolding cut
returns-in-N c = rw c.in-N.is (record { few = search rules; alone = search rules; text_is = refl })
