-- What holds of images and readouts, each law once, for every known device.
-- Lemmas stand in States (where a readout keeps a fuse), FirstAbove (refusal 6) and Change (one fuse changed).

--   readout_bit        bit b of a readout byte, within its width, is the state of the fuse with that byte's address and bit b
--   readout_above      bits above the width are 0
--   kept_at_address    any readout keeps a fuse in the byte with the address that the conversion gives the fuse, at the bit that it gives
--   image_inverse      image to readout to image is the image, for any bytes of the image's length
--   readout_inverse    readout to image to readout is the readout, for any accepted readout
--   accepted_iff       a readout is accepted exactly if no byte has a bit above its width
--   readout_accepted   an image's readout is always accepted
--   change_agrees      the readout of an image with one fuse changed is the readout with the bit at its address changed
use mathlib.Core.Path.{◌≡◌, refl, sym, ◌∙◌, ap, ap₂, subst₂}
use mathlib.Core.Logic.{◌↔◌}
use mathlib.Core.Bool.{true, cond}
use mathlib.Core.List.{List}
use Prim.Native.Nat.{ℕ, ◌+◌, ◌^◌, ◌≤◌, ◌<◌}
use native.Mathlib.Omega.{arith}
use native.Mathlib.Nat.{le_of_eq}
use lib.Dec.{ltb, eqb}
use lib.ListN.{length, get_or}
use borrow.Author.Tests.{lt-ltb, le-ltb, ltb-true, lt-leb, leb-false, eqb-true, eq-eqb}
use Rattle.part.specs.Outcome.{Outcome}
use Rattle.part.specs.Outcome.Outcome.{accepted, refused}
use Rattle.part.specs.Device.{known, fuse_count, image_bytes, readout_bytes}
use Rattle.part.specs.Place.{has_byte, has_place, width_of, first_fuse, place_of_fuse}
use Rattle.addresses.specs.Address.{address_of_byte, byte_of_address, byte_of_index}
use Rattle.addresses.specs.Convert.{address_of_fuse, fuse_of_address}
use Rattle.part.specs.declared.Device.{Device}
use Rattle.part.specs.declared.BytePlace.{BytePlace}
use Rattle.part.proofs.Facts.{and_iff, compared}
use Rattle.part.proofs.Lowest.{lowest_iff}
use Rattle.part.proofs.Fuses.{at_fuse}
use Rattle.addresses.proofs.Readouts.{at_index, of_byte}
use Rattle.addresses.proofs.ByteAddresses.{address_inverse}
use Rattle.part.proofs.Checks.{passed}
use Rattle.addresses.proofs.Conversions.{fuse_of_address_iff}
use Rattle.image.specs.Bits.{bit_at}
use Rattle.image.specs.Image.{state, image_from}
use Rattle.image.proofs.Images.{image_from_lem, same_image, image_own}
use Rattle.image.proofs.Bits.{bit_above}
use Rattle.image.proofs.Counts.{state_bit}
use Rattle.readout.specs.Readout.{width_at, fuse_at, readout_from, readout_of, index_in_readout, bit_in_readout, state_in, image_of, above_at}
use Rattle.readout.specs.Readout.{first_above, to_image}
use Rattle.readout.proofs.States.{readout_from_lem, readout_within, same_readout, readout_own}
pub use Rattle.readout.proofs.States.{lying, from_length, readout_state}
pub use Rattle.readout.proofs.Change.{change_agrees}

-- The byte has the address that the conversion gives the fuse, and the bit is the one that it gives: so it is for any readout.
pub kept_at_address : (d : Device) → known d ≡ true → (fuse : ℕ) → fuse < fuse_count d
    → (index_in_readout d fuse < readout_bytes d)
    × (address_of_fuse d fuse ≡ accepted (address_of_byte (byte_of_index d (index_in_readout d fuse)), bit_in_readout d fuse))
    × ((readout : List ℕ) → state_in d readout fuse ≡ bit_at readout (index_in_readout d fuse) (bit_in_readout d fuse))
unfolding has_place address_of_fuse state_in
kept_at_address d k fuse h =
    let byte = (place_of_fuse d fuse).byte in
    let there = ((and_iff (has_byte d byte) (ltb (place_of_fuse d fuse).bit (width_of byte))).0 (at_fuse d fuse h).0).0 in
    ((of_byte d byte there).0, rw (k, lt-ltb fuse (fuse_count d) h, (of_byte d byte there).1), λ readout. refl)

-- In an image's readout, each bit b within a byte's width is the state of the fuse with that byte's address and bit b.
pub readout_bit : (d : Device) (image : List ℕ) (index bit fuse : ℕ) → index < readout_bytes d
    → fuse_of_address d (address_of_byte (byte_of_index d index)) bit ≡ accepted fuse
    → bit_at (readout_of d image) index bit ≡ state image fuse
unfolding readout_of has_place
readout_bit d image index bit fuse h e =
    let s = (fuse_of_address_iff d fuse (address_of_byte (byte_of_index d index)) bit).0 e in
    let has = (and_iff (has_byte d s.place.byte) (ltb s.place.bit (width_of s.place.byte))).0 s.there in
    let byte : s.place.byte ≡ byte_of_index d index = sym (address_inverse d s.device s.place.byte has.0)
    ∙ ap byte_of_address s.its_address ∙ address_inverse d s.device (byte_of_index d index) (at_index d index h).0 in
    let within : bit < width_at d index = subst₂ (λ (b : BytePlace) (i : ℕ). i < width_of b) byte s.its_bit (ltb-true _ _ has.1) in
    let same : fuse_at d index bit ≡ fuse = ap₂ (λ (b : BytePlace) (i : ℕ). first_fuse d b + i) (sym byte) (sym s.its_bit) ∙ s.its_fuse in
    readout_from_lem d (state image) (state_bit image) index bit h within ∙ ap (state image) same

-- Bits above the byte's width are 0.
pub readout_above : (d : Device) (image : List ℕ) (index bit : ℕ) → index < readout_bytes d → width_at d index ≤ bit
    → bit_at (readout_of d image) index bit ≡ 0
unfolding readout_of bit_at
readout_above d image index bit h hb =
    bit_above (get_or (readout_from d (state image)) index 0) (width_at d index) bit
    (readout_within d (state image) (state_bit image) index h) hb

-- The state of a fuse in a readout is a bit.
state_in_bit : (d : Device) (readout : List ℕ) (fuse : ℕ) → state_in d readout fuse < 2
unfolding state_in bit_at
state_in_bit d readout fuse = omega arith

-- Image to readout to image is the image.
pub image_inverse : (d : Device) (image : List ℕ) → known d ≡ true → length image ≡ image_bytes d → ((i : ℕ) → get_or image i 0 < 2 ^ 8)
    → image_of d (readout_of d image) ≡ image
unfolding image_of readout_of
image_inverse d image k e small =
    same_image d (state_in d (readout_from d (state image))) (state image) (readout_state d (state image) (state_bit image)) k
    ∙ image_own d image e small

-- No byte has a bit above its width.
abbrev pub Within : Device → List ℕ → Type 0
Within d readout = (index : ℕ) → index < readout_bytes d → get_or readout index 0 < 2 ^ width_at d index

-- Readout to image to readout is the readout.
pub readout_inverse : (d : Device) (readout : List ℕ) → known d ≡ true → length readout ≡ readout_bytes d → Within d readout
    → readout_of d (image_of d readout) ≡ readout
unfolding image_of readout_of
readout_inverse d readout k e small =
    same_readout d (state (image_from d (state_in d readout))) (state_in d readout)
    (image_from_lem d (state_in d readout) (state_in_bit d readout) k)
    ∙ readout_own d readout e small

-- No byte has a bit above its width exactly if there is no first one.
pub no_above_iff : (d : Device) (readout : List ℕ) → (readout_bytes d ≤ first_above d readout) ↔ Within d readout
unfolding above_at
no_above_iff d readout = (
  λ h index below.
      let l = (lowest_iff (above_at d readout) (readout_bytes d) (first_above d readout)).0 refl in
      leb-false (2 ^ width_at d index) (get_or readout index 0) (l.lower_fail index (omega arith)),
  λ h.
      le_of_eq
      (sym
      ((lowest_iff (above_at d readout) (readout_bytes d) (readout_bytes d)).1
      (record {
        at_most = omega arith;
        lower_fail = λ index below. lt-leb (2 ^ width_at d index) (get_or readout index 0) (h index below);
        passes = λ bad. absurd (omega arith);
      }))),
)

-- No byte of an image's readout has a bit above its width.
pub readout_accepted : (d : Device) (image : List ℕ) → Within d (readout_of d image)
unfolding readout_of
readout_accepted d image = readout_within d (state image) (state_bit image)

-- A readout is accepted exactly if the device is known, the lengths are exact and no byte has a bit above its width.
pub accepted_iff : (d : Device) (readout target : List ℕ)
    → (to_image d readout target ≡ accepted tt)
    ↔ ((known d ≡ true) × (length readout ≡ readout_bytes d) × (length target ≡ image_bytes d) × Within d readout)
unfolding to_image
accepted_iff d readout target = (
  λ e.
      let one = passed (known d) _ 1 0 e in
      let two = passed (eqb (length readout) (readout_bytes d)) _ 2 0 one.1 in
      let three = passed (eqb (length target) (image_bytes d)) _ 2 0 two.1 in (
        one.0,
        eqb-true _ _ two.0,
        eqb-true _ _ three.0,
        (no_above_iff d readout).0 (not_refused (first_above d readout) (readout_bytes d) three.1),
      ),
  λ h. rw (
    h.0,
    eq-eqb (length readout) (readout_bytes d) h.1,
    eq-eqb (length target) (image_bytes d) h.2,
    le-ltb (first_above d readout) (readout_bytes d) ((no_above_iff d readout).1 h.3),
  ),
)
  where
    clash : (k : ℕ) → ◌≡◌ {A = Outcome (Unit {0})} (refused 6 k) (accepted tt) → ◌≡◌ {A = ℕ} 0 1
    clash k e = cc

    not_refused : (k n : ℕ) → cond (ltb k n) (refused 6 k) (accepted tt) ≡ accepted (tt {0}) → n ≤ k
    not_refused k n e =
        compared k n (λ less. let z : ◌≡◌ {A = ℕ} 0 1 = clash k (rw (lt-ltb k n less) at e) in absurd (omega arith)) (λ more. more)
