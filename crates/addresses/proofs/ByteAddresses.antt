-- Addresses and bytes: the address of a byte that the device has names that byte, and an address is valid exactly if it is
-- the address of such a byte.
use mathlib.Core.Path.{◌≡◌, refl, sym, ◌∙◌, ap}
use mathlib.Core.Logic.{◌↔◌}
use mathlib.Core.Bool.{true}
use Prim.Native.Nat.{ℕ, ◌+◌, ◌*◌, ◌/◌, ◌%◌, ◌^◌, ◌<◌}
use native.Mathlib.Omega.{arith}
use Rattle.part.specs.Device.{known}
use Rattle.part.specs.Place.{has_byte}
use Rattle.addresses.specs.Address.{field, address_of_byte, byte_of_address, valid}
use Rattle.part.specs.declared.Device.{Device}
use Rattle.part.specs.declared.BytePlace.{BytePlace}
use Rattle.part.specs.declared.BytePlace.TheVariants.{Main, WireAnd}
use Rattle.part.proofs.Facts.{tests}
use Rattle.part.proofs.Devices.{blocks_small}

-- The fields of an address that is composed of numbers that fit them.
main_fields : (a b r h l : ℕ) → a ≡ b * 2 ^ 13 + 0 * 2 ^ 12 + r * 2 ^ 5 + h * 2 ^ 3 + l → b < 16 → r < 128 → h < 4 → l < 8
    → (field a 12 1 ≡ 0) × (field a 13 4 ≡ b) × (field a 5 7 ≡ r) × (field a 3 2 ≡ h) × (field a 0 3 ≡ l)
main_fields a b r h l e hb hr hh hl = omega arith

wire_and_fields : (a b s r c : ℕ) → a ≡ b * 2 ^ 13 + 1 * 2 ^ 12 + s * 2 ^ 8 + r * 2 ^ 3 + c → b < 16 → s < 16 → r < 32 → c < 8
    → (field a 12 1 ≡ 1) × (field a 13 4 ≡ b) × (field a 8 4 ≡ s) × (field a 3 5 ≡ r) × (field a 0 3 ≡ c)
wire_and_fields a b s r c e hb hs hr hc = omega arith

-- The address of a byte names that byte.
pub address_inverse : (d : Device) → known d ≡ true → (byte : BytePlace) → has_byte d byte ≡ true
    → byte_of_address (address_of_byte byte) ≡ byte
unfolding byte_of_address
address_inverse d k (Main block row column) h =
    let small = blocks_small d k in
    let facts = simp tests at h in
    let a = address_of_byte (Main block row column) in
    let f = main_fields a block row (column / 5) (column % 5) refl (omega arith) (omega arith) (omega arith) (omega arith) in
    let whole : column / 5 * 5 + column % 5 ≡ column = omega arith in
    rw (f.0, f.1, f.2, f.3, f.4, whole)
address_inverse d k (WireAnd block subarea row column) h =
    let small = blocks_small d k in
    let facts = simp tests at h in
    let a = address_of_byte (WireAnd block subarea row column) in
    let f = wire_and_fields a block subarea row column refl (omega arith) (omega arith) (omega arith) (omega arith) in
    rw (f.0, f.1, f.2, f.3, f.4)

-- And has 17 bits.
pub address_small : (d : Device) → known d ≡ true → (byte : BytePlace) → has_byte d byte ≡ true → address_of_byte byte < 2 ^ 17
address_small d k (Main block row column) h = let facts = simp tests at h in omega (arith, blocks_small d k)
address_small d k (WireAnd block subarea row column) h = let facts = simp tests at h in omega (arith, blocks_small d k)

-- An address is valid exactly if it is composed from a block, row and column (subarea) that the device has.
pub valid_iff : (d : Device) → known d ≡ true → (address : ℕ)
    → (valid d address ≡ true) ↔ ((byte : BytePlace) × (has_byte d byte ≡ true) × (address_of_byte byte ≡ address))
unfolding valid
valid_iff d k address = (
  λ v. let facts = simp tests at v in (byte_of_address address, facts.1, facts.0),
  λ b.
      let name : byte_of_address address ≡ b.0 = ap byte_of_address (sym b.2) ∙ address_inverse d k b.0 b.1 in
      simp tests (rw name b.2, rw name b.1),
)
