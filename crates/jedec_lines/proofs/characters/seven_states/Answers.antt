-- `seven_states` meets its contract: the bits apart, by the test over all of them.
-- Assumes nothing.
use native.Mathlib.Omega.{arith}
use Rattle.jedec_lines.proofs.Columns.{apart_small, seven_bits}
use borrow.Author.Rules.{rules}
use Rattle.jedec_lines.proofs.characters.seven_states.Goals as goal

pub returns : goal.returns
returns c = (search (rules, seven_bits), omega (arith, apart_small c.low_bits.result))
