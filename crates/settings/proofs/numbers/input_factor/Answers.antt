-- `input_factor` meets its contract: each number is the quotient that its block count gives.
-- Assumes nothing.
use mathlib.Core.Path.{◌≡◌}
use Prim.Native.Nat.{ℕ, ◌+◌, ◌*◌, ◌/◌, ◌^◌}
use borrow.Author.Rules.{rules}
use Rattle.part.specs.Device.{blocks_of}
use Rattle.part.specs.declared.Device.{Device}
use Rattle.part.proofs.Devices.{sixteen_blocks}
use Rattle.settings.proofs.numbers.input_factor.Goals as goal

factor_for : (d : Device) (k r : ℕ) → d.blocks ≡ k → r ≡ 2 ^ 32 / (k * 18) + 1 → r ≡ 2 ^ 32 / (blocks_of d * 18) + 1
factor_for d k r e f = rw e f

pub returns-in_default : goal.returns-in_default
returns-in_default c = search (rules, sixteen_blocks, factor_for)
