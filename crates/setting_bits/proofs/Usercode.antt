-- USERCODE's bits stand by pairs: where each pair stands, and a pair more read or put in place.
-- Stated once for images and readouts.
use mathlib.Core.Path.{◌≡◌, refl, sym, ◌∙◌, ap, ap₂}
use mathlib.Core.Bool.{true}
use mathlib.Core.List.{List}
use Prim.Native.Nat.{ℕ, suc, ◌+◌, ◌*◌, ◌-◌, ◌/◌, ◌%◌, ◌^◌, ◌<◌, ◌≤◌}
use native.Mathlib.Omega.{arith}
use native.Mathlib.Nat.{mul_assoc, mul_comm, add-mul}
use native.Mathlib.Numerals.{one-add}
use lib.ListN.{length}
use lib.Pow.{pow-add, pow_mono, shl_exact, field}
use borrow.Author.Tests.{lt-ltb}
use Rattle.part.specs.Device.{known}
use Rattle.addresses.specs.Address.{index_of_byte}
use Rattle.part.specs.declared.Device.{Device}
use Rattle.part.specs.declared.Place.{Place}
use Rattle.image.specs.Bits.{bit_of, bit_at, with_bit, gathered}
use Rattle.image.proofs.Bits.{gathered_small}
use Rattle.image.proofs.Pairs.{next_bit}
use Rattle.settings.specs.Fields.{macrocell_index}
use Rattle.settings.specs.Settings.{has_setting}
use Rattle.settings.specs.declared.GlobalField.TheVariants.{FsrInv, FclkInv, FoeInv, FclkMux, FoeMux, Usercode}
use Rattle.settings.specs.declared.Setting.{Setting}
use Rattle.settings.specs.declared.Setting.TheVariants.{Literal, WireAnd, Macrocell, Block, Global}
use Rattle.settings.proofs.CodeNumbers.{has_macrocell}
use Rattle.settings.proofs.FieldIndices.{macrocell_at}
use Rattle.setting_places.specs.Places.{place_of, rows, bits_of, fuse_of}
use Rattle.setting_places.proofs.OnePlaceEach.{rows_few}
use Rattle.setting_bits.specs.declared.Layout.{Layout}
use Rattle.setting_bits.specs.declared.Layout.TheVariants.{Image, Readout}
use Rattle.setting_bits.specs.SettingBits.{bytes_of, byte_of, bit_in, state_of, with_state, with_bits}
use Rattle.setting_bits.proofs.Edits.{inside, fuse_below}
use Rattle.setting_bits.proofs.Steps.{place_inverse, bits_read, state_small}

abbrev pub usercode : Setting
usercode = Global Usercode

-- No other setting has 32 bits.
pub the_usercode : (d : Device) (s : Setting) → has_setting d s ≡ true → bits_of s ≡ 32 → s ≡ usercode
unfolding bits_of
the_usercode d (Literal block j k l polarity) h e = absurd (omega arith)
the_usercode d (WireAnd i j k l) h e = absurd (omega arith)
the_usercode d (Macrocell block m f) h e =
    let its = (has_macrocell d (Macrocell block m f) h block m f refl).2 in
    let few : rows f ≤ 3 = rw (← macrocell_at f its) (rows_few (macrocell_index f) its) in
    absurd (omega arith)
the_usercode d (Block block f) h e = absurd (omega arith)
the_usercode d (Global FsrInv) h e = absurd (omega arith)
the_usercode d (Global (FclkInv c)) h e = absurd (omega arith)
the_usercode d (Global (FoeInv i)) h e = absurd (omega arith)
the_usercode d (Global (FclkMux c)) h e = absurd (omega arith)
the_usercode d (Global (FoeMux i)) h e = absurd (omega arith)
the_usercode d (Global Usercode) h e = refl

-- Every device has it.
pub usercode_there : (d : Device) → has_setting d usercode ≡ true
unfolding has_setting
usercode_there d = lt-ltb _ _ (omega arith)

-- The row and the column of a pair.
abbrev pub row_of : ℕ → ℕ
row_of pair = 7 - pair / 8

abbrev pub column_of : ℕ → ℕ
column_of pair = 7 - pair % 8

-- The fuse of a bit, and its byte and bit in a readout.
its_fuse : (d : Device) (b : ℕ) → fuse_of d usercode b ≡ (7 - b / 16) * 108 + (7 - b % 16 / 2) * 8 + (6 + b % 2)
unfolding fuse_of place_of
its_fuse d b = rw (lt-ltb (7 - b % 16 / 2) 9 (omega arith)) (omega arith)

in_usercode : (b : ℕ) → b < 32 → b < bits_of usercode
unfolding bits_of
in_usercode b l = l

-- The two fuses of a pair with the states that a pattern needs: a pair more in place.
abbrev pub both_states : Device → Layout → List ℕ → (pattern pair : ℕ) → List ℕ
both_states d layout bytes pattern pair =
    with_state d layout (with_state d layout bytes (fuse_of d usercode (2 * pair)) (bit_of pattern (2 * pair)))
    (fuse_of d usercode (2 * pair + 1)) (bit_of pattern (2 * pair + 1))

pub two_put : (d : Device) (layout : Layout) (before bytes after : List ℕ) (pattern pair : ℕ)
    → bytes ≡ with_bits d layout before usercode pattern (2 * pair)
    → after ≡ both_states d layout bytes pattern pair → after ≡ with_bits d layout before usercode pattern (2 * (pair + 1))
unfolding with_bits
two_put d layout before bytes after pattern pair e g =
    let one : 2 * pair + 1 ≡ suc (2 * pair) = omega arith in
    let next : 2 * (pair + 1) ≡ suc (suc (2 * pair)) = omega arith in
    rw (next, ← one, ← e) g

-- Two bits more of a number that is gathered.
two_more : (f : ℕ → ℕ) (w : ℕ) → gathered f (suc (suc w)) ≡ gathered f w + (f w + 2 * f (suc w)) * 2 ^ w
unfolding gathered
two_more f w =
    let double : 2 ^ suc w ≡ 2 * 2 ^ w = rw (← one-add w) (pow-add 2 1 w) in
    rw (double, add-mul (f w) (2 * f (suc w)) (2 ^ w), ← mul_assoc (f (suc w)) 2 (2 ^ w), mul_comm (f (suc w)) 2) (omega arith)

module _ (d : Device) (k : known d ≡ true) where
  its_index : (b : ℕ) → b < 32 → byte_of d Readout (fuse_of d usercode b) ≡ (7 - b / 16) * 15 + (7 - b % 16 / 2)
  unfolding place_of
  its_index b l =
      ap (λ (p : Place). index_of_byte d p.byte) (place_inverse d k usercode (usercode_there d) b (in_usercode b l)) ∙ omega arith

  its_bit : (b : ℕ) → b < 32 → bit_in d Readout (fuse_of d usercode b) ≡ 6 + b % 2
  unfolding place_of
  its_bit b l = ap (λ (p : Place). p.bit) (place_inverse d k usercode (usercode_there d) b (in_usercode b l))

  module _ (pair : ℕ) (l : pair < 16) where
    -- The lower bit of a pair.
    pub in_readout : (row_of pair * 15 + column_of pair ≡ byte_of d Readout (fuse_of d usercode (2 * pair)))
        × (6 ≡ bit_in d Readout (fuse_of d usercode (2 * pair)))
    in_readout =
        let twice : 2 * pair < 32 = omega arith in
        (rw (its_index (2 * pair) twice) (omega arith), rw (its_bit (2 * pair) twice) (omega arith))

    pub in_image : (row_of pair * 108 + column_of pair * 8 + 6 ≡ fuse_of d usercode (2 * pair))
    in_image = rw (its_fuse d (2 * pair)) (omega arith)

    -- It is not the last bit of its byte.
    low : (layout : Layout) → bit_in d layout (fuse_of d usercode (2 * pair)) < 7
    low Image = rw (its_fuse d (2 * pair)) (omega arith)
    low Readout = omega (arith, in_readout)

    next_fuse : fuse_of d usercode (2 * pair + 1) ≡ fuse_of d usercode (2 * pair) + 1
    next_fuse =
        let row : (2 * pair + 1) / 16 ≡ 2 * pair / 16 = omega arith in
        let column : (2 * pair + 1) % 16 / 2 ≡ 2 * pair % 16 / 2 = omega arith in
        rw (its_fuse d (2 * pair), its_fuse d (2 * pair + 1), row, column) (omega arith)

    -- The upper one is the next bit of the same byte.
    pub upper : (layout : Layout)
        → (byte_of d layout (fuse_of d usercode (2 * pair + 1)) ≡ byte_of d layout (fuse_of d usercode (2 * pair)))
        × (bit_in d layout (fuse_of d usercode (2 * pair + 1)) ≡ bit_in d layout (fuse_of d usercode (2 * pair)) + 1)
    upper Image = rw next_fuse (omega (arith, low Image), omega (arith, low Image))
    upper Readout =
        let twice : 2 * pair < 32 = omega arith in
        let next : 2 * pair + 1 < 32 = omega arith in
        rw (its_index (2 * pair) twice, its_index (2 * pair + 1) next, its_bit (2 * pair) twice, its_bit (2 * pair + 1) next)
        (omega arith, omega arith)

    -- The byte is there.
    module _ (layout : Layout) (index bit : ℕ) (x : index ≡ byte_of d layout (fuse_of d usercode (2 * pair)))
        (y : bit ≡ bit_in d layout (fuse_of d usercode (2 * pair))) where
      pub location_in : (bytes : List ℕ) → length bytes ≡ bytes_of d layout → index < length bytes
      location_in bytes e = rw (e, x)
          (inside d layout (fuse_of d usercode (2 * pair)) k
          (fuse_below d k usercode (usercode_there d) (2 * pair) (in_usercode (2 * pair) (omega arith))))

      pub location_low : bit < 7
      location_low = rw y (low layout)

      -- A pair more read.
      pub pair_more : (bytes : List ℕ) (pattern states : ℕ) → pattern ≡ bits_read d layout bytes usercode (2 * pair)
          → states ≡ bit_at bytes index bit + 2 * bit_at bytes index (bit + 1)
          → (pattern + states * 2 ^ (2 * pair) % 2 ^ 32 ≡ bits_read d layout bytes usercode (2 * (pair + 1)))
          × (pattern + states * 2 ^ (2 * pair) % 2 ^ 32 < 2 ^ 32)
      pair_more bytes pattern states e g =
          let state : ℕ → ℕ = λ b. state_of d layout bytes (fuse_of d usercode b) in
          let one : 2 * pair + 1 ≡ suc (2 * pair) = omega arith in
          let next : 2 * (pair + 1) ≡ suc (suc (2 * pair)) = omega arith in
          let lower : bit_at bytes index bit ≡ state (2 * pair) = ap₂ (bit_at bytes) x y in
          let higher : bit_at bytes index (bit + 1) ≡ state (2 * pair + 1) =
          ap₂ (bit_at bytes) (x ∙ sym (upper layout).0) (ap (λ (n : ℕ). n + 1) y ∙ sym (upper layout).1) in
          let both : states ≡ state (2 * pair) + 2 * state (suc (2 * pair)) =
          g ∙ ap₂ (λ (m n : ℕ). m + 2 * n) lower (higher ∙ ap state one) in
          let small : (b : ℕ) → state b < 2 = λ b. state_small d layout bytes (fuse_of d usercode b) in
          let few : states < 2 ^ 2 = omega (arith, small (2 * pair), small (suc (2 * pair))) in
          let exact : states * 2 ^ (2 * pair) % 2 ^ 32 ≡ states * 2 ^ (2 * pair) = shl_exact 2 (2 * pair) 32 few (omega arith) in
          let sum : pattern + states * 2 ^ (2 * pair) ≡ bits_read d layout bytes usercode (suc (suc (2 * pair))) =
          ap₂ (λ (m n : ℕ). m + n * 2 ^ (2 * pair)) e both ∙ sym (two_more state (2 * pair)) in
          let up : suc (suc (2 * pair)) ≤ 32 = omega arith in
          let most : 2 ^ suc (suc (2 * pair)) ≤ 2 ^ 32 = pow_mono up in
          let below : bits_read d layout bytes usercode (suc (suc (2 * pair))) < 2 ^ suc (suc (2 * pair)) =
          gathered_small state small (suc (suc (2 * pair))) in
          rw (exact, next) (sum, rw sum (omega arith))

      -- A pair put in place.
      pub pair_put : (bytes after : List ℕ) (pattern : ℕ)
          → after ≡ with_bit (with_bit bytes index bit (pattern / 2 ^ (2 * pair) % 4 % 2)) index (bit + 1)
          (pattern / 2 ^ (2 * pair) % 4 / 2)
          → after ≡ both_states d layout bytes pattern pair
      pair_put bytes after pattern g =
          let lower : pattern / 2 ^ (2 * pair) % 4 % 2 ≡ bit_of pattern (2 * pair) = omega arith in
          let higher : pattern / 2 ^ (2 * pair) % 4 / 2 ≡ bit_of pattern (2 * pair + 1) =
          rw (next_bit pattern (2 * pair)) (field (pattern / 2 ^ (2 * pair)) 1 1) in
          rw ((upper layout).0, (upper layout).1, ← x, ← y, ← lower, ← higher) g

-- What a pair put in place is proved by.
pub ruleset by_pairs = (location_in, location_low, pair_put)
