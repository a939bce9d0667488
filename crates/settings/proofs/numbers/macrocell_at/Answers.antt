-- `macrocell_at` meets its contract: the indices at a position.
-- Assumes nothing.
use Rattle.settings.proofs.CodeNumbers.{whole}
use Rattle.settings.proofs.numbers.macrocell_at.Goals as goal

pub returns : goal.returns
returns c = rw (whole, c.from_index-field.ensures)
