-- `address_of_byte` meets its contract: each part of a byte of the device fits its field, so the fields add up.
-- Assumes nothing.
use mathlib.Core.Path.{◌≡◌}
use mathlib.Core.Bool.{true}
use Prim.Native.Nat.{ℕ, ◌<◌}
use native.Mathlib.Omega.{arith}
use Rattle.part.specs.Device.{known}
use Rattle.part.specs.Place.{has_byte}
use Rattle.part.specs.declared.Device.{Device}
use Rattle.part.specs.declared.BytePlace.{BytePlace}
use Rattle.part.specs.declared.BytePlace.TheVariants.{Main, WireAnd}
use Rattle.part.proofs.Facts.{tests}
use Rattle.part.proofs.Devices.{blocks_small}
use Rattle.addresses.proofs.bytes.address_of_byte.Goals as goal

main_parts : (d : Device) (byte : BytePlace) (block row column : ℕ) → known d ≡ true → has_byte d byte ≡ true
    → byte ≡ Main block row column → (block < 16) × (row < 72) × (column < 15)
main_parts d byte block row column k h e =
    let facts = simp tests at (rw e at h) in omega (arith, blocks_small d k)

wire_and_parts : (d : Device) (byte : BytePlace) (block subarea row column : ℕ) → known d ≡ true → has_byte d byte ≡ true
    → byte ≡ WireAnd block subarea row column → (block < 16) × (subarea < 16) × (row < 18) × (column < 5)
wire_and_parts d byte block subarea row column k h e =
    let facts = simp tests at (rw e at h) in omega (arith, blocks_small d k)

pub with_field-requires : goal.with_field-requires
with_field-requires c = omega (arith, main_parts _ _ _ _ _ c.args.d.is_known c.requires c.in-Main.is)

pub with_field-subareas-requires : goal.with_field-subareas-requires
with_field-subareas-requires c = omega (arith, wire_and_parts _ _ _ _ _ _ c.args.d.is_known c.requires c.in-WireAnd.is)

pub with_field-area-requires-in-WireAnd : goal.with_field-area-requires-in-WireAnd
with_field-area-requires-in-WireAnd c = omega (arith, wire_and_parts _ _ _ _ _ _ c.args.d.is_known c.requires c.in-WireAnd.is)

pub with_field-requires-in-WireAnd : goal.with_field-requires-in-WireAnd
with_field-requires-in-WireAnd c = omega (arith, wire_and_parts _ _ _ _ _ _ c.args.d.is_known c.requires c.in-WireAnd.is)
