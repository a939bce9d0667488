-- `place_of_fuse` meets its contract: the portion tells the area, and what is left in the block is the definition's.
-- Assumes nothing.
use mathlib.Core.Path.{◌≡◌}
use Prim.Native.Nat.{◌/◌}
use borrow.Author.Rules.{rules}
use Rattle.part.specs.Device.{block_fuses}
use Rattle.part.proofs.Fuses.{place_in_main_lem, place_in_wire_and_lem}
use Rattle.part.proofs.Portions.{block_small, before_fits, left_in_block, fuse_small}
use Rattle.part.proofs.Portions.{in_main_area, behind_main_area, in_portion, subarea_of}
use Rattle.part.proofs.places.place_of_fuse.Goals as goal

-- The block, since the device has the fuse.
the_block : (c : goal.After-block_of_fuse-block)
    → c.block_of_fuse-block.result ≡ c.args.fuse.0 / block_fuses c.args.d.device
the_block c = c.block_of_fuse-block.ensures.0 c.requires

pub portions_before-before-requires : goal.portions_before-before-requires
portions_before-before-requires c = search (rules, the_block, block_small)

pub portion_of_fuse-portion-requires : goal.portion_of_fuse-portion-requires
portion_of_fuse-portion-requires c = search (rules, fuse_small)

pub main_row-row-requires : goal.main_row-row-requires
main_row-row-requires c = search (rules, the_block, fuse_small, before_fits)

pub returns-then-portion-before-lt-MAIN_PORTIONS : goal.returns-then-portion-before-lt-MAIN_PORTIONS
returns-then-portion-before-lt-MAIN_PORTIONS c = search (rules, the_block, before_fits, left_in_block, in_main_area, place_in_main_lem)

pub wire_and_row-row-requires : goal.wire_and_row-row-requires
wire_and_row-row-requires c = search (rules, fuse_small)

pub returns : goal.returns
returns c = search (rules, the_block, before_fits, left_in_block, behind_main_area, place_in_wire_and_lem, in_portion, subarea_of)
