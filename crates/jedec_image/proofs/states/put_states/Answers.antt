-- `put_states` meets its contract: what is stored, with the new low bits of one byte, and the states still to come.
-- Assumes nothing.
use borrow.Author.Rules.{rules}
use Rattle.jedec_image.proofs.StatesPut.{starts, no_overflow, falls, bits_added}
use Rattle.jedec_image.proofs.StatesPut.{index_there, byte_stored, last_byte, last_stored, all_stored}
use Rattle.jedec_image.proofs.states.put_states.Goals as goal

pub loop-i-init : goal.loop-i-init
loop-i-init c = search (rules, starts)

pub overflow_add-low : goal.overflow_add-low
overflow_add-low c = record { fits = search (rules, no_overflow) }

pub bounds-image-index-then-bit-ge8 : goal.bounds-image-index-then-bit-ge8
bounds-image-index-then-bit-ge8 c = search (rules, index_there)

pub loop-i-preserved-then-bit-ge8 : goal.loop-i-preserved-then-bit-ge8
loop-i-preserved-then-bit-ge8 c = search (rules, byte_stored)

pub loop-i-smaller : goal.loop-i-smaller
loop-i-smaller c = search (rules, falls)

pub loop-i-preserved : goal.loop-i-preserved
loop-i-preserved c = search (rules, bits_added)

pub overflow_cast-image-then-bit-gt0-2 : goal.overflow_cast-image-then-bit-gt0-2
overflow_cast-image-then-bit-gt0-2 c = record { fits = search (rules, last_byte) }

pub returns-then-bit-gt0 : goal.returns-then-bit-gt0
returns-then-bit-gt0 c = search (rules, last_stored)

pub returns-else-bit-gt0 : goal.returns-else-bit-gt0
returns-else-bit-gt0 c = search (rules, all_stored)
