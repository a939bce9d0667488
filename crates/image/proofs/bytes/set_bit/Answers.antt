-- `set_bit` meets its contract: `put_states` at its width.
-- Assumes nothing.
use Rattle.std.proofs.Common.{sym, ◌∙◌}
use Rattle.image.proofs.Pairs.{with_one}
use Rattle.image.proofs.bytes.set_bit.Goals as goal

pub returns : goal.returns
returns c = c.put_states.ensures ∙ sym (with_one _ _ _ _)
