-- `set_pair` meets its contract: `put_states` at its width.
-- Assumes nothing.
use Rattle.std.proofs.Common.{sym, ◌∙◌}
use Rattle.image.proofs.Pairs.{with_pair}
use Rattle.image.proofs.bytes.set_pair.Goals as goal

pub returns : goal.returns
returns c = c.put_states.ensures ∙ sym (with_pair _ _ _ _ c.requires.0 c.requires.2)
