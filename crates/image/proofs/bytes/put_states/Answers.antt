-- `put_states` meets its contract: the old states of the bits taken off, and the new ones put on.
-- Assumes nothing.
use Rattle.std.proofs.Common.{refl, rules}
use Rattle.image.proofs.Pairs.{made_fits, made_in}
use Rattle.image.proofs.bytes.put_states.Goals as goal

pub overflow_add-bytes : goal.overflow_add-bytes
overflow_add-bytes g c = search (rules, made_fits)

pub returns : goal.returns
returns g c = made_in _ c.args.bit g.row.WIDTH c.args.states c.requires.1 c.requires.3 c.requires.4 c.args.bytes.now c.args.index refl
