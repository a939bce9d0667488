-- What the code of reading and setting needs at each step: where a bit of a setting stands, and one more bit read or looked at.
-- Assumes nothing.
use mathlib.Core.Path.{◌≡◌, sym, ◌∙◌, ap, ap₂}
use mathlib.Core.Bool.{true, false, not, ◌&&◌}
use mathlib.Core.List.{List}
use Prim.Native.Nat.{ℕ, suc, ◌+◌, ◌*◌, ◌/◌, ◌%◌, ◌^◌, ◌<◌, ◌≤◌}
use native.Mathlib.Omega.{arith}
use native.Mathlib.Nat.{div-eq_of_lt, div-lt_iff_lt-mul, mul-le-mul, mul-le-mul_right}
use lib.Dec.{ltb, leb, eqb}
use lib.ListN.{get_or}
use lib.Pow.{pow_pos, pow_mono, shl_exact}
use borrow.Author.Tests.{lt-leb, le-leb, ne_eqb}
use Rattle.part.specs.Device.{known, in_device, fuse_count, readout_bytes}
use Rattle.part.specs.Place.{has_byte, has_place, width_of, place_of_fuse}
use Rattle.addresses.specs.Address.{index_of_byte, byte_of_index}
use Rattle.part.specs.declared.Device.{Device}
use Rattle.part.specs.declared.Place.{Place}
use Rattle.part.proofs.Facts.{and_iff, compared}
use Rattle.part.proofs.Laws.{width_small}
use Rattle.part.proofs.Devices.{by_count, known_count, fuses_small, image_whole, in_device_small}
use Rattle.part.proofs.Fuses.{of_place, has_byte_lem}
use Rattle.addresses.proofs.Readouts.{of_byte}
use Rattle.image.specs.Bits.{bit_at, gathered}
use Rattle.image.proofs.Bits.{gathered_small}
use Rattle.readout.specs.Readout.{width_at, above_at}
use Rattle.readout.proofs.Laws.{lying}
use Rattle.settings.specs.Settings.{has_setting}
use Rattle.settings.specs.declared.Setting.{Setting}
use Rattle.setting_places.specs.Places.{place_of, bits_of, fuse_of}
use Rattle.setting_places.proofs.OnePlaceEach.{has_place_lem}
use Rattle.setting_values.specs.Kinds.{kind_of}
use Rattle.setting_values.proofs.Widths.{kind_bits}
use Rattle.values.proofs.Laws as values
use Rattle.setting_bits.specs.declared.Layout.{Layout}
use Rattle.setting_bits.specs.declared.Layout.TheVariants.{Image, Readout}
use Rattle.setting_bits.specs.SettingBits.{bytes_of, byte_of, bit_in, state_of, above_among}
use Rattle.setting_bits.proofs.Edits.{fuse_below}

-- An image or a readout has at least the bytes of the smallest device's image, and at most those of the largest device's readout.
least : (d : Device) (main subarea : ℕ) → known d ≡ true → 2 * (main + 2 * subarea) ≤ in_device d main subarea
least d main subarea k =
    let two : 2 ≤ d.blocks =
    by_count (λ n. 2 ≤ n) (omega arith) (omega arith) (omega arith) (omega arith) (omega arith) (omega arith)
    d.blocks (known_count d k) in
    mul-le-mul two (omega (arith, mul-le-mul_right subarea two))

pub bytes_between : (d : Device) (layout : Layout) → known d ≡ true → (2268 ≤ bytes_of d layout) × (bytes_of d layout ≤ 40320)
unfolding readout_bytes fuse_count
bytes_between d Image k = (omega (arith, least d 7776 648 k, image_whole d k), omega (arith, fuses_small d k, image_whole d k))
bytes_between d Readout k = (omega (arith, least d 1080 90 k), in_device_small d 1080 90 k)

-- A setting has at most 32 bits.
pub bits_few : (d : Device) (s : Setting) → has_setting d s ≡ true → bits_of s ≤ 32
bits_few d s h = rw (← kind_bits d s h) (values.bits_small (kind_of d s))

-- A byte has at most 8.
pub width_in : (p : Place) (w : ℕ) → w ≡ width_of p.byte → w < 32
width_in p w e = omega (arith, width_small p.byte)

-- The place of a bit of a setting.
module _ (d : Device) (k : known d ≡ true) (s : Setting) (h : has_setting d s ≡ true) (b : ℕ) (l : b < bits_of s) where
  pub place_inverse : place_of_fuse d (fuse_of d s b) ≡ place_of s b
  unfolding fuse_of
  place_inverse = (of_place d (place_of s b) (has_place_lem d s b k h l)).1

  pub its_byte : has_byte d (place_of s b).byte ≡ true
  unfolding has_place
  its_byte = ((and_iff _ _).0 (has_place_lem d s b k h l)).0

  -- The bit of a byte is below 8.
  pub bit_small : (layout : Layout) → bit_in d layout (fuse_of d s b) < 8
  bit_small Image = omega arith
  bit_small Readout = omega (
    arith,
    (lying d (fuse_of d s b) (fuse_below d k s h b l)).bit_below,
    width_small (byte_of_index d (byte_of d Readout (fuse_of d s b))),
  )

-- One more bit read: a state is 0 or 1, and the bits so far are below 2^bit.
abbrev pub bits_read : Device → Layout → List ℕ → Setting → ℕ → ℕ
bits_read d layout bytes s w = gathered (λ b. state_of d layout bytes (fuse_of d s b)) w

pub state_small : (d : Device) (layout : Layout) (bytes : List ℕ) (f : ℕ) → state_of d layout bytes f < 2
unfolding bit_at
state_small d layout bytes f = omega arith

pub read_more : (d : Device) (layout : Layout) (bytes : List ℕ) (s : Setting) (pattern state bit : ℕ) → bit < 32
    → pattern ≡ bits_read d layout bytes s bit → state ≡ state_of d layout bytes (fuse_of d s bit)
    → (pattern + state * 2 ^ bit % 2 ^ 32 ≡ bits_read d layout bytes s (bit + 1)) × (pattern + state * 2 ^ bit % 2 ^ 32 < 2 ^ 32)
unfolding gathered
read_more d layout bytes s pattern state bit l e g =
    let small = gathered_small (λ b. state_of d layout bytes (fuse_of d s b)) (λ b. state_small d layout bytes (fuse_of d s b)) in
    let one : state < 2 ^ 1 = rw g (state_small d layout bytes (fuse_of d s bit)) in
    let exact : state * 2 ^ bit % 2 ^ 32 ≡ state * 2 ^ bit = shl_exact 1 bit 32 one (omega arith) in
    let next : bit + 1 ≡ suc bit = omega arith in
    let sum : pattern + state * 2 ^ bit ≡ bits_read d layout bytes s (suc bit) = ap₂ (λ (x y : ℕ). x + y * 2 ^ bit) e g in
    let up : suc bit ≤ 32 = omega arith in
    let most : 2 ^ suc bit ≤ 2 ^ 32 = pow_mono up in
    let below : bits_read d layout bytes s (suc bit) < 2 ^ suc bit = small (suc bit) in
    rw (exact, next) (sum, rw sum (omega arith))

-- One more byte looked at.
pub above_iff : (x w : ℕ) → not (eqb (x / 2 ^ w) 0) ≡ leb (2 ^ w) x
above_iff x w = compared x (2 ^ w) (λ less. rw (div-eq_of_lt less, lt-leb (2 ^ w) x less)) (λ more. rw (some more, le-leb (2 ^ w) x more))
  where
    some : 2 ^ w ≤ x → eqb (x / 2 ^ w) 0 ≡ false
    some more =
        ne_eqb (x / 2 ^ w) 0 (λ e. let small : x / 2 ^ w < 1 = omega arith in
        let less = (div-lt_iff_lt-mul {k = 2 ^ w} {x = x} {y = 1} (pow_pos w)).0 small in omega arith)

module _ (d : Device) (k : known d ≡ true) (readout : List ℕ) (s : Setting) (h : has_setting d s ≡ true) (b : ℕ) (l : b < bits_of s)
    (p : Place) (e : p ≡ place_of s b) (index : ℕ) (g : index ≡ index_of_byte d p.byte) where
  pub its_index : index ≡ byte_of d Readout (fuse_of d s b)
  its_index = g ∙ ap (λ (q : Place). index_of_byte d q.byte) (e ∙ sym (place_inverse d k s h b l))

  pub its_width : width_of p.byte ≡ width_at d index
  its_width =
      let byte : has_byte d p.byte ≡ true = rw e (its_byte d k s h b l) in
      ap width_of (sym (of_byte d p.byte byte).1) ∙ ap (λ (i : ℕ). width_of (byte_of_index d i)) (sym g)

  -- The code's test of a byte is the definition's.
  pub its_test : (above lowest w : ℕ) → w ≡ width_of p.byte → above ≡ get_or readout index 0 / 2 ^ w → lowest ≡ above_among d readout s b
      → (not (eqb above 0) && ltb index lowest)
      ≡ (above_at d readout (byte_of d Readout (fuse_of d s b)) && ltb (byte_of d Readout (fuse_of d s b)) (above_among d readout s b))
  unfolding above_at
  its_test above lowest w q r m =
      let width : w ≡ width_at d index = q ∙ its_width in
      let test : not (eqb above 0) ≡ leb (2 ^ width_at d index) (get_or readout index 0) =
      rw (r, width) (above_iff (get_or readout index 0) (width_at d index)) in
      rw (test, m, its_index)

-- What the location of a place is proved by.
pub ruleset located = (of_place, has_byte_lem, has_place_lem)
