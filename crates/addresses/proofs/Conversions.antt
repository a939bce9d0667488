-- The two conversions are inverse: each is accepted exactly where fuse, address and bit belong to one place of the device.
-- So each fuse has exactly one address and bit, and each valid address and bit within its width exactly one fuse.
use mathlib.Core.Path.{◌≡◌, refl, sym, ◌∙◌, ap}
use mathlib.Core.Logic.{◌↔◌}
use mathlib.Core.Bool.{true, ◌&&◌}
use Prim.Native.Nat.{ℕ}
use lib.Dec.{ltb}
use borrow.Author.Tests.{lt-ltb, ltb-true}
use Rattle.part.specs.Outcome.Outcome.{accepted}
use Rattle.part.specs.Device.{known, fuse_count}
use Rattle.part.specs.Place.{has_place, has_byte, width_of, fuse_of_place, place_of_fuse}
use Rattle.addresses.specs.Address.{address_of_byte, byte_of_address, valid}
use Rattle.addresses.specs.Convert.{address_of_fuse, fuse_of_address}
use Rattle.part.specs.declared.Device.{Device}
use Rattle.part.specs.declared.Place.{Place}
use Rattle.part.proofs.Facts.{tests, and_iff}
use Rattle.part.proofs.Checks.{passed, result}
use Rattle.part.proofs.Fuses.{at_fuse, of_place}
use Rattle.addresses.proofs.ByteAddresses.{address_inverse, valid_iff}

-- Fuse, address and bit belong to one place of a known device.
pub record SamePlace (d : Device) (fuse address bit : ℕ) : Type 0 where
  pub device : known d ≡ true
  pub place : Place
  pub there : has_place d place ≡ true
  pub its_fuse : fuse_of_place d place ≡ fuse
  pub its_address : address_of_byte place.byte ≡ address
  pub its_bit : place.bit ≡ bit

module _ (d : Device) (fuse address bit : ℕ) where
  address_to : address_of_fuse d fuse ≡ accepted (address, bit) → SamePlace d fuse address bit
  unfolding address_of_fuse
  address_to e =
      let outer = passed (known d) _ 1 0 e in
      let inner = passed (ltb fuse (fuse_count d)) _ 3 0 outer.1 in
      let lies = at_fuse d fuse (ltb-true fuse (fuse_count d) inner.0) in
      record {
        device = outer.0;
        place = place_of_fuse d fuse;
        there = lies.0;
        its_fuse = lies.1;
        its_address = ap (λ (q : ℕ × ℕ). q.0) (result inner.1);
        its_bit = ap (λ (q : ℕ × ℕ). q.1) (result inner.1);
      }

  address_from : SamePlace d fuse address bit → address_of_fuse d fuse ≡ accepted (address, bit)
  unfolding address_of_fuse
  address_from s =
      let found = of_place d s.place s.there in
      let below : ltb (fuse_of_place d s.place) (fuse_count d) ≡ true = lt-ltb _ _ found.0 in
      rw (s.device, ← s.its_fuse, below, found.1, s.its_address, s.its_bit)

  fuse_to : fuse_of_address d address bit ≡ accepted fuse → SamePlace d fuse address bit
  unfolding fuse_of_address has_place valid
  fuse_to e =
      let outer = passed (known d) _ 1 0 e in
      let inner = passed (valid d address && ltb bit (width_of (byte_of_address address))) _ 3 0 outer.1 in
      let facts = (and_iff (valid d address) (ltb bit (width_of (byte_of_address address)))).0 inner.0 in
      let composed = simp tests at facts.0 in
      record {
        device = outer.0;
        place = record { byte = byte_of_address address; bit = bit };
        there = (and_iff (has_byte d (byte_of_address address)) (ltb bit (width_of (byte_of_address address)))).1 (composed.1, facts.1);
        its_fuse = cc;
        its_address = composed.0;
        its_bit = refl;
      }

  fuse_from : SamePlace d fuse address bit → fuse_of_address d address bit ≡ accepted fuse
  unfolding fuse_of_address has_place
  fuse_from s =
      let facts = (and_iff (has_byte d s.place.byte) (ltb s.place.bit (width_of s.place.byte))).0 s.there in
      let named : byte_of_address address ≡ s.place.byte =
      ap byte_of_address (sym s.its_address) ∙ address_inverse d s.device s.place.byte facts.0 in
      let ok : valid d address ≡ true = (valid_iff d s.device address).1 (s.place.byte, facts.0, s.its_address) in
      rw (s.device, ok, named, ← s.its_bit, facts.1, s.its_fuse)

-- The address of a fuse is accepted exactly where the three belong to one place.
pub address_of_fuse_iff : (d : Device) (fuse address bit : ℕ)
    → (address_of_fuse d fuse ≡ accepted (address, bit)) ↔ SamePlace d fuse address bit
address_of_fuse_iff d fuse address bit = (address_to d fuse address bit, address_from d fuse address bit)

-- So is the fuse of an address and a bit.
pub fuse_of_address_iff : (d : Device) (fuse address bit : ℕ)
    → (fuse_of_address d address bit ≡ accepted fuse) ↔ SamePlace d fuse address bit
fuse_of_address_iff d fuse address bit = (fuse_to d fuse address bit, fuse_from d fuse address bit)

-- The two conversions are inverse to each other, for every device, fuse, address and bit.
pub inverse : (d : Device) (fuse address bit : ℕ)
    → (address_of_fuse d fuse ≡ accepted (address, bit)) ↔ (fuse_of_address d address bit ≡ accepted fuse)
inverse d fuse address bit = (
  λ e. fuse_from d fuse address bit (address_to d fuse address bit e),
  λ e. address_from d fuse address bit (fuse_to d fuse address bit e),
)
