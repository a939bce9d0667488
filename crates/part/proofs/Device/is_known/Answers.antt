-- `is_known` meets its contract: the tests are the definition's.
-- Assumes nothing.
use mathlib.Core.Path.{◌≡◌, ap}
use mathlib.Core.Bool.{Bool, ◌&&◌}
use borrow.Author.Rules.{rules}
use Rattle.part.specs.Device.{is_block_count, is_class, known}
use Rattle.part.specs.declared.Device.{Device}
use Rattle.part.proofs.Device.is_known.Goals as goal

both_tests : (d : Device) (t : Bool) → t ≡ is_block_count d.blocks → (t && is_class d.class) ≡ known d
unfolding known
both_tests d t e = ap (λ (u : Bool). u && is_class d.class) e

pub returns : goal.returns
returns c = search (rules, both_tests)
