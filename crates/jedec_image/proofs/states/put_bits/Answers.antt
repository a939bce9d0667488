-- `put_bits` meets its contract: bytes stored one after another, and the last with its own high bits.
-- Assumes nothing.
use mathlib.Core.Path.{refl}
use native.Mathlib.Omega.{arith}
use borrow.Author.Rules.{rules}
use Rattle.jedec_image.proofs.BitsPut.{all_fit, bits_start}
use Rattle.jedec_image.proofs.BitsPut.{bits_stored}
use Rattle.jedec_image.proofs.BitsPut.{bits_last_byte, bits_last, bits_done}
use Rattle.jedec_image.proofs.states.put_bits.Goals as goal

pub overflow_add-rest : goal.overflow_add-rest
overflow_add-rest c = record { fits = search (rules, all_fit) }

pub loop-index-init : goal.loop-index-init
loop-index-init c = search (rules, bits_start)

pub loop-index-preserved : goal.loop-index-preserved
loop-index-preserved c = search (rules, bits_stored)

pub overflow_cast-image-then-left-gt0-2 : goal.overflow_cast-image-then-left-gt0-2
overflow_cast-image-then-left-gt0-2 c =
    record { fits = bits_last_byte _ _ _ _ _ _ _ c.loop-index.invariant _ refl (omega arith) (omega arith) _ refl }

pub returns-then-left-gt0 : goal.returns-then-left-gt0
returns-then-left-gt0 c = bits_last _ _ _ _ _ _ _ c.loop-index.invariant _ refl (omega arith) (omega arith) _ refl

pub returns-else-left-gt0 : goal.returns-else-left-gt0
returns-else-left-gt0 c = bits_done _ _ _ _ _ _ _ c.loop-index.invariant _ refl (omega arith) (omega arith) _ refl (omega arith)
