-- What holds of the definitions of specs/, each law once, for every device:
--   inverse               a fuse has this address and bit exactly if this address and bit have that fuse
--   each_fuse             every fuse below the count has an address and a bit
--   each_address          every bit within the width of a valid address has a fuse, which is below the count
--   at_valid              the address of a fuse is valid, has 17 bits, and the bit is below its byte's width
--   valid_iff             an address is valid exactly if it is composed from a block, row and column that the device has
--   each_valid            the address of each readout byte is valid
--   ascending             the addresses of the readout bytes ascend
--   none_left_out         every valid address is that of a readout byte
--   bench_cases_lem           document 01's cases marked P
use mathlib.Core.Path.{◌≡◌, refl, sym, ◌∙◌, ap, subst₂}
use mathlib.Core.Bool.{true}
use Prim.Native.Nat.{ℕ, ◌^◌, ◌<◌}
use lib.Dec.{ltb, eqb}
use borrow.Author.Tests.{lt-ltb, ltb-true}
use Rattle.part.specs.Outcome.Outcome.{accepted}
use Rattle.part.specs.Device.{known, fuse_count}
use Rattle.part.specs.Place.{has_place, has_byte, width_of, fuse_of_place, place_of_fuse}
use Rattle.part.specs.declared.Device.{Device}
use Rattle.part.specs.declared.Place.{Place}
use Rattle.part.specs.declared.BytePlace.{BytePlace}
use Rattle.part.proofs.Facts.{and_iff}
use Rattle.part.proofs.Fuses.{of_place}
use Rattle.addresses.specs.Address.{address_of_byte, byte_of_address, valid}
use Rattle.addresses.specs.Convert.{address_of_fuse, fuse_of_address}
use Rattle.addresses.specs.Cases.{AllHold, cases}
use Rattle.addresses.proofs.ByteAddresses.{address_inverse, address_small}
use Rattle.addresses.proofs.Conversions.{address_of_fuse_iff}
pub use Rattle.addresses.proofs.Conversions.{inverse}
pub use Rattle.addresses.proofs.ByteAddresses.{valid_iff}
pub use Rattle.addresses.proofs.Readouts.{each_valid, ascending, none_left_out}

pub each_fuse : (d : Device) → known d ≡ true → (fuse : ℕ) → fuse < fuse_count d
    → (address : ℕ) × (bit : ℕ) × (address_of_fuse d fuse ≡ accepted (address, bit))
unfolding address_of_fuse
each_fuse d k fuse h =
    (address_of_byte (place_of_fuse d fuse).byte, (place_of_fuse d fuse).bit, rw (k, lt-ltb fuse (fuse_count d) h))

pub each_address : (d : Device) → known d ≡ true → (address bit : ℕ) → valid d address ≡ true → bit < width_of (byte_of_address address)
    → (fuse : ℕ) × (fuse < fuse_count d) × (fuse_of_address d address bit ≡ accepted fuse)
unfolding fuse_of_address has_place valid
each_address d k address bit v h =
    let p : Place = record { byte = byte_of_address address; bit = bit } in
    let within : ltb bit (width_of (byte_of_address address)) ≡ true = lt-ltb bit (width_of (byte_of_address address)) h in
    let there : has_place d p ≡ true =
    (and_iff (has_byte d p.byte) _).1 (((and_iff (eqb (address_of_byte p.byte) address) (has_byte d p.byte)).0 v).1, within) in
    (fuse_of_place d p, (of_place d p there).0, rw (k, v, within))

pub at_valid : (d : Device) (fuse address bit : ℕ) → address_of_fuse d fuse ≡ accepted (address, bit)
    → (valid d address ≡ true) × (address < 2 ^ 17) × (bit < width_of (byte_of_address address))
unfolding has_place
at_valid d fuse address bit e =
    let s = (address_of_fuse_iff d fuse address bit).0 e in
    let facts = (and_iff _ _).0 s.there in
    let named : byte_of_address address ≡ s.place.byte =
    ap byte_of_address (sym s.its_address) ∙ address_inverse d s.device s.place.byte facts.0 in (
      (valid_iff d s.device address).1 (s.place.byte, facts.0, s.its_address),
      rw (← s.its_address) (address_small d s.device s.place.byte facts.0),
      subst₂ (λ (b : BytePlace) (i : ℕ). i < width_of b) (sym named) s.its_bit (ltb-true _ _ facts.1),
    )

pub bench_cases_lem : AllHold cases
unfolding address_of_fuse fuse_of_address known fuse_count place_of_fuse valid byte_of_address
bench_cases_lem = (
  (refl, refl),
  (
    (refl, refl),
    (
      (refl, refl),
      (
        (refl, refl),
        (
          (refl, refl),
          (
            (refl, refl),
            (
              (refl, refl),
              ((refl, refl), ((refl, refl), ((refl, refl), (refl, (λ bit. refl, (λ bit. refl, (λ bit. refl, (λ bit. refl, tt)))))))),
            ),
          ),
        ),
      ),
    ),
  ),
)
