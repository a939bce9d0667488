-- `fuse_of_place` meets its contract: the device has the place, so each of its parts is small and no sum wraps.
-- Assumes nothing.
use mathlib.Core.Path.{◌≡◌}
use mathlib.Core.Bool.{true}
use Prim.Native.Nat.{ℕ, ◌+◌, ◌*◌, ◌<◌, ◌≤◌}
use native.Mathlib.Omega.{arith}
use native.Mathlib.Nat.{mul-le-mul}
use borrow.Author.Rules.{rules}
use Rattle.part.specs.Device.{known, in_block, main_start, wire_and_start}
use Rattle.part.specs.Place.{has_place}
use Rattle.part.specs.declared.Device.{Device}
use Rattle.part.specs.declared.Place.{Place}
use Rattle.part.specs.declared.BytePlace.TheVariants.{Main, WireAnd}
use Rattle.part.proofs.Facts.{tests}
use Rattle.part.proofs.Devices.{blocks_small, in_block_small}
use Rattle.part.proofs.Rows.{in_row}
use Rattle.part.proofs.places.fuse_of_place.Goals as goal

-- A column of the device is one that a row has.
module _ (d : Device) (p : Place) (h : has_place d p ≡ true) (block row column : ℕ) where
  main_column : p.byte ≡ Main block row column → column < 15
  unfolding has_place
  main_column e = let facts = simp tests at (rw e at h) in omega arith

  wire_and_column : (subarea : ℕ) → p.byte ≡ WireAnd block subarea row column → column < 15
  unfolding has_place
  wire_and_column subarea e = let facts = simp tests at (rw e at h) in omega arith

module _ (d : Device) (p : Place) (block each : ℕ) (k : known d ≡ true) (h : has_place d p ≡ true) where
  -- The blocks before one of a known device have few fuses.
  blocks_before : block < d.blocks → each ≡ in_block d 7776 648 → block * each ≤ 16 * 18144
  blocks_before l e =
      mul-le-mul {n₂ = 16} {m₂ = 18144} (omega (arith, blocks_small d k)) (omega (arith, in_block_small d 7776 648 k))

  -- The parts of a place, as the code has them: all are small.
  main_small : (row column start : ℕ) → p.byte ≡ Main block row column → each ≡ in_block d 7776 648
      → start ≡ main_start column → (block * each ≤ 290304) × (row < 72) × (start + p.bit < 108)
  unfolding has_place
  main_small row column start e q s =
      let facts = simp tests at (rw e at h) in (
        blocks_before (omega arith) q,
        omega arith,
        rw s (in_row 9 6 6 (omega arith) column p.bit (omega arith) (omega arith)),
      )

  wire_and_small : (subarea row column start : ℕ) → p.byte ≡ WireAnd block subarea row column → each ≡ in_block d 7776 648
      → start ≡ wire_and_start column → (block * each ≤ 290304) × (subarea < 16) × (row < 18) × (start + p.bit < 36)
  unfolding has_place
  wire_and_small subarea row column start e q s =
      let facts = simp tests at (rw e at h) in (
        blocks_before (omega arith) q,
        omega (arith, blocks_small d k),
        omega arith,
        rw s (in_row 1 7 4 (omega arith) column p.bit (omega arith) (omega arith)),
      )

in_main_lem : (c : goal.After-column_start-start)
    → (c.in-Main.block * c.in_block-per_block.result ≤ 290304) × (c.in-Main.row < 72)
    × (c.column_start-start.result + c.args.place.bit < 108)
in_main_lem c =
    main_small c.args.d.device c.args.place _ _ c.args.d.is_known c.requires _ _ _
    c.in-Main.is c.in_block-per_block.ensures c.column_start-start.ensures

in_wire_and_lem : (c : goal.After-column_start-start-in-WireAnd)
    → (c.in-WireAnd.block * c.in_block-per_block.result ≤ 290304) × (c.in-WireAnd.subarea < 16) × (c.in-WireAnd.row < 18)
    × (c.column_start-start-in-WireAnd.result + c.args.place.bit < 36)
in_wire_and_lem c =
    wire_and_small c.args.d.device c.args.place _ _ c.args.d.is_known c.requires _ _ _ _
    c.in-WireAnd.is c.in_block-per_block.ensures c.column_start-start-in-WireAnd.ensures

pub column_start-start-requires : goal.column_start-start-requires
column_start-start-requires c = (omega arith, omega arith, search (rules, main_column))

pub column_start-start-requires-in-WireAnd : goal.column_start-start-requires-in-WireAnd
column_start-start-requires-in-WireAnd c = (omega arith, omega arith, search (rules, wire_and_column))

pub overflow_mul-result : goal.overflow_mul-result
overflow_mul-result c = omega (arith, in_main_lem c)

pub overflow_mul-result-in-Main : goal.overflow_mul-result-in-Main
overflow_mul-result-in-Main c = omega (arith, in_main_lem c)

pub overflow_add-result : goal.overflow_add-result
overflow_add-result c = omega (arith, in_main_lem c)

pub overflow_add-result-in-Main : goal.overflow_add-result-in-Main
overflow_add-result-in-Main c = omega (arith, in_main_lem c)

pub overflow_add-result-in-Main-2 : goal.overflow_add-result-in-Main-2
overflow_add-result-in-Main-2 c = omega (arith, in_main_lem c)

pub overflow_mul-in_subarea : goal.overflow_mul-in_subarea
overflow_mul-in_subarea c = omega (arith, in_wire_and_lem c)

pub overflow_add-in_subarea : goal.overflow_add-in_subarea
overflow_add-in_subarea c = omega (arith, in_wire_and_lem c)

pub overflow_add-in_block : goal.overflow_add-in_block
overflow_add-in_block c = omega (arith, in_wire_and_lem c)

pub overflow_mul-result-in-WireAnd : goal.overflow_mul-result-in-WireAnd
overflow_mul-result-in-WireAnd c = omega (arith, in_wire_and_lem c)

pub overflow_mul-in_block : goal.overflow_mul-in_block
overflow_mul-in_block c = omega (arith, in_wire_and_lem c)

pub overflow_add-result-in-WireAnd : goal.overflow_add-result-in-WireAnd
overflow_add-result-in-WireAnd c = omega (arith, in_wire_and_lem c)

pub overflow_add-result-in-WireAnd-2 : goal.overflow_add-result-in-WireAnd-2
overflow_add-result-in-WireAnd-2 c = omega (arith, in_wire_and_lem c)

pub overflow_add-in_block-in-WireAnd : goal.overflow_add-in_block-in-WireAnd
overflow_add-in_block-in-WireAnd c = omega (arith, in_wire_and_lem c)
