-- `block_of_fuse` meets its contract: below the count the product is the quotient, and from there on it is no block.
-- Assumes nothing.
use borrow.Author.Rules.{rules}
use Rattle.part.proofs.Devices.{block_of, block_below}
use Rattle.part.proofs.places.block_of_fuse.Goals as goal

pub returns : goal.returns
returns c = search (rules, block_of, block_below)
