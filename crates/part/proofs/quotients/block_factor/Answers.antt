-- `block_factor` meets its contract: each number is the quotient that its block count gives.
-- Assumes nothing.
use borrow.Author.Rules.{rules}
use Rattle.part.proofs.Devices.{sixteen_blocks, factor_for}
use Rattle.part.proofs.quotients.block_factor.Goals as goal

pub returns-in_default : goal.returns-in_default
returns-in_default c = search (rules, sixteen_blocks, factor_for)
