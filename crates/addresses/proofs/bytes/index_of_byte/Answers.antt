-- `index_of_byte` meets its contract: the sum as the code has it is the definition's, which is below the readout's length.
-- Assumes nothing.
use mathlib.Core.Path.{◌≡◌}
use mathlib.Core.Bool.{true}
use Prim.Native.Nat.{ℕ, ◌+◌, ◌*◌, ◌≤◌}
use native.Mathlib.Omega.{arith}
use Rattle.part.specs.Device.{known, in_block, readout_bytes}
use Rattle.part.specs.Place.{has_byte}
use Rattle.addresses.specs.Address.{index_of_byte}
use Rattle.part.specs.declared.Device.{Device}
use Rattle.part.specs.declared.BytePlace.{BytePlace}
use Rattle.part.specs.declared.BytePlace.TheVariants.{Main, WireAnd}
use Rattle.part.proofs.Devices.{in_device_small}
use Rattle.addresses.proofs.Readouts.{of_byte}
use Rattle.addresses.proofs.bytes.index_of_byte.Goals as goal

module _ (d : Device) (byte : BytePlace) where
  small : (x : ℕ) → known d ≡ true → has_byte d byte ≡ true → x ≡ index_of_byte d byte → (x ≡ index_of_byte d byte) × (x ≤ 40320)
  unfolding readout_bytes
  small x k h e = (e, omega (arith, (of_byte d byte h).0, in_device_small d 1080 90 k))

  in_main_lem : (block row column each : ℕ) → known d ≡ true → has_byte d byte ≡ true → byte ≡ Main block row column
      → each ≡ in_block d 1080 90
      → (block * each + (row * 15 + column) ≡ index_of_byte d byte) × (block * each + (row * 15 + column) ≤ 40320)
  in_main_lem block row column each k h e g = small _ k h (rw (e, g))

  in_wire_and_lem : (block subarea row column each : ℕ) → known d ≡ true → has_byte d byte ≡ true → byte ≡ WireAnd block subarea row column
      → each ≡ in_block d 1080 90
      → (block * each + (1080 + (subarea * 90 + (row * 5 + column))) ≡ index_of_byte d byte)
      × (block * each + (1080 + (subarea * 90 + (row * 5 + column))) ≤ 40320)
  in_wire_and_lem block subarea row column each k h e g = small _ k h (rw (e, g))

pub overflow_mul-result : goal.overflow_mul-result
overflow_mul-result c = omega (
  arith,
  in_main_lem c.args.d.device c.args.byte _ _ _
      c.in_block-per_block.result c.args.d.is_known c.requires
      c.in-Main.is c.in_block-per_block.ensures,
)

pub overflow_add-result-in-Main : goal.overflow_add-result-in-Main
overflow_add-result-in-Main c = omega (
  arith,
  in_main_lem c.args.d.device c.args.byte _ _ _
      c.in_block-per_block.result c.args.d.is_known c.requires
      c.in-Main.is c.in_block-per_block.ensures,
)

pub overflow_mul-result-in-WireAnd : goal.overflow_mul-result-in-WireAnd
overflow_mul-result-in-WireAnd c = omega (
  arith,
  in_wire_and_lem c.args.d.device c.args.byte _ _ _ _
      c.in_block-per_block.result c.args.d.is_known c.requires
      c.in-WireAnd.is c.in_block-per_block.ensures,
)

pub overflow_add-result-in-WireAnd-3 : goal.overflow_add-result-in-WireAnd-3
overflow_add-result-in-WireAnd-3 c = omega (
  arith,
  in_wire_and_lem c.args.d.device c.args.byte _ _ _ _
      c.in_block-per_block.result c.args.d.is_known c.requires
      c.in-WireAnd.is c.in_block-per_block.ensures,
)
