-- `no_name` meets its contract: one piece of eight bytes.
-- Assumes nothing.
use mathlib.Core.Path.{refl}
use Rattle.names.proofs.AtFuse.{unnamed_spelled}
use Rattle.names.proofs.setting_names.no_name.Goals as goal

pub returns : goal.returns
returns c = unnamed_spelled _ refl
