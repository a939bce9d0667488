-- A literal by its number: its one bit stands at the place that the number gives, and its byte is looked at.
-- Assumes nothing.
use mathlib.Core.Path.{◌≡◌, refl, sym, ap}
use mathlib.Core.Bool.{Bool, true, false, cond, not, ◌&&◌}
use mathlib.Core.List.{List}
use Prim.Native.Nat.{ℕ, ◌/◌, ◌%◌, ◌^◌, ◌<◌, ◌≤◌}
use native.Mathlib.Omega.{arith}
use mir.Syntax.{w32}
use mir.Val.{Fits}
use lib.Dec.{eqb, ltb}
use lib.ListN.{length, get_or}
use borrow.Author.Tests.{lt-ltb, le-ltb}
use Rattle.part.specs.Outcome.Outcome.{accepted, refused}
use Rattle.part.specs.Device.{known}
use Rattle.part.specs.Place.{has_place, fuse_of_place, width_of}
use Rattle.part.specs.declared.Device.{Device}
use Rattle.part.specs.declared.Place.{Place}
use Rattle.part.specs.declared.Refusal.TheVariants.{BitAboveWidth}
use Rattle.image.specs.Bits.{bit_at, with_bit, gathered}
use Rattle.settings.specs.Settings.{has_setting}
use Rattle.settings.specs.Order.{start, count_of, setting_of}
use Rattle.settings.specs.Order.Group.{literals, wire_ands}
use Rattle.settings.specs.declared.Setting.{Setting}
use Rattle.settings.proofs.Numbering.{ends}
use Rattle.setting_places.specs.Places.{place_of, bits_of, fuse_of}
use Rattle.setting_places.proofs.OnePlaceEach.{has_place_lem}
use Rattle.setting_places.proofs.AtPlace.{literal_there, literal_bits}
use Rattle.setting_bits.specs.declared.Layout.{Layout}
use Rattle.setting_bits.specs.declared.Layout.TheVariants.{Image, Readout}
use Rattle.setting_bits.specs.SettingBits.{is_readout, bytes_of, byte_of, bit_in, pattern_at, with_bits, with_pattern}
use Rattle.setting_bits.proofs.Edits.{inside, fuse_below}
use Rattle.setting_bits.proofs.Steps.{bytes_between, bit_small}
use Rattle.setting_bits.proofs.AboveWidth.{single_above}
use Rattle.edit.specs.Edit.{above_in}
use Rattle.edit_by_number.specs.ByNumber.{read_pattern}
use Rattle.edit_by_number.proofs.Asked.{PatternGives, reads_above, reads_clean, sets_none, sets_above, sets_clean}

-- A bit above the width of the byte of a setting of one bit, in a readout.
above_of_one : (d : Device) (layout : Layout) (bytes : List ℕ) (s : Setting) → known d ≡ true → has_setting d s ≡ true → bits_of s ≡ 1
    → (p : Place) → p ≡ place_of s 0 → (index w above : ℕ) → index ≡ byte_of d layout (fuse_of d s 0) → w ≡ width_of p.byte
    → above ≡ get_or bytes index 0 / 2 ^ w
    → above_in d layout bytes s ≡ cond (is_readout layout && not (eqb above 0)) index (bytes_of d layout)
unfolding above_in
above_of_one d Image bytes s k h one p e index w above i v a = refl
above_of_one d Readout bytes s k h one p e index w above i v a = single_above d k s h one bytes p e index w above i v a

module _ (d : Device) (x : ℕ) (l : x < start d wire_ands) where
  number_there : x < count_of d
  number_there = omega (arith, ends d literals)

  one_bit : bits_of (setting_of d x) ≡ 1
  one_bit = sym (literal_bits d x l)

  its : has_setting d (setting_of d x) ≡ true
  its = literal_there d x l

  bit_0 : 0 < bits_of (setting_of d x)
  bit_0 = omega (arith, one_bit)

  fits_in : (pattern : ℕ) → pattern ≤ 1 → ltb pattern (2 ^ bits_of (setting_of d x)) ≡ true
  fits_in pattern low = rw one_bit (lt-ltb pattern 2 (omega arith))

  pub not_two : (layout : Layout) (bytes : List ℕ) (pattern : ℕ) → known d ≡ true → length bytes ≡ bytes_of d layout → 1 < pattern
      → PatternGives d layout bytes x pattern (refused 5 0) bytes
  not_two layout bytes pattern k n m =
      let over : 2 ≤ pattern = omega arith in
      sets_none d layout bytes x k n number_there (setting_of d x) refl pattern (rw one_bit (le-ltb pattern 2 over))

  index_in : known d ≡ true → (layout : Layout) (bytes : List ℕ) → length bytes ≡ bytes_of d layout
      → (index : ℕ) → index ≡ byte_of d layout (fuse_of d (setting_of d x) 0) → index < length bytes
  index_in k layout bytes n index i =
      rw (n, i) (inside d layout (fuse_of d (setting_of d x) 0) k (fuse_below d k (setting_of d x) its 0 bit_0))

  pub bit_in_lem : known d ≡ true → (layout : Layout) (bit : ℕ) → bit ≡ bit_in d layout (fuse_of d (setting_of d x) 0) → bit < 8
  bit_in_lem k layout bit j = rw j (bit_small d k (setting_of d x) its 0 bit_0 layout)

  module _ (k : known d ≡ true) (p : Place) (e : p ≡ place_of (setting_of d x) 0) where
    pub place_there : has_place d p ≡ true
    place_there = rw e (has_place_lem d (setting_of d x) 0 k its bit_0)

    module _ (layout : Layout) (bytes : List ℕ) (n : length bytes ≡ bytes_of d layout)
        (index bit : ℕ) (i : index ≡ byte_of d layout (fuse_of_place d p)) (j : bit ≡ bit_in d layout (fuse_of_place d p)) where
      pub at_index : index ≡ byte_of d layout (fuse_of d (setting_of d x) 0)
      unfolding fuse_of
      at_index = rw (← e) i

      pub at_bit_lem : bit ≡ bit_in d layout (fuse_of d (setting_of d x) 0)
      unfolding fuse_of
      at_bit_lem = rw (← e) j

      pub location_in : index < length bytes
      location_in = index_in k layout bytes n index at_index

      pub index_fits : Fits w32 index
      index_fits = record { fits = omega (arith, location_in, n, bytes_between d layout k) }

      module _ (w above : ℕ) (t : Bool) (v : w ≡ width_of p.byte) (a : above ≡ get_or bytes index 0 / 2 ^ w)
          (r : t ≡ is_readout layout) where
        found : (b : Bool) → (t && not (eqb above 0)) ≡ b → above_in d layout bytes (setting_of d x) ≡ cond b index (bytes_of d layout)
        found b h =
            rw (← h, r) (above_of_one d layout bytes (setting_of d x) k its one_bit p e index w above at_index v a)

        pub one_above : (t && not (eqb above 0)) ≡ true
            → (BitAboveWidth index ≡ BitAboveWidth (above_in d layout bytes (setting_of d x)))
            × (above_in d layout bytes (setting_of d x) < bytes_of d layout)
        one_above h = let same = found true h in (ap BitAboveWidth (sym same), rw (same, ← n) location_in)

        pub none_above : (t && not (eqb above 0)) ≡ false → above_in d layout bytes (setting_of d x) ≡ bytes_of d layout
        none_above h = found false h

module _ (d : Device) (x : ℕ) (l : x < start d wire_ands) (k : known d ≡ true) (layout : Layout) (bytes : List ℕ)
    (n : length bytes ≡ bytes_of d layout) where
  -- A bit above the width of its byte.
  module _ (m : above_in d layout bytes (setting_of d x) < bytes_of d layout) where
    pub read_above : refused 6 (above_in d layout bytes (setting_of d x)) ≡ read_pattern d layout bytes x
    read_above = reads_above d layout bytes x k n (number_there d x l) (setting_of d x) refl _ refl (rw n m)

    pub set_above : (pattern : ℕ) → pattern ≤ 1
        → PatternGives d layout bytes x pattern (refused 6 (above_in d layout bytes (setting_of d x))) bytes
    set_above pattern low =
        sets_above d layout bytes x k n (number_there d x l) (setting_of d x) refl pattern (fits_in d x l pattern low) _ refl (rw n m)

  -- None: its one bit is read, or put in place.
  module _ (index bit : ℕ) (i : index ≡ byte_of d layout (fuse_of d (setting_of d x) 0))
      (j : bit ≡ bit_in d layout (fuse_of d (setting_of d x) 0)) where
    pub there : index < length bytes
    there = index_in d x l k layout bytes n index i

    its_pattern : (state : ℕ) → state ≡ bit_at bytes index bit → state ≡ pattern_at d layout bytes (setting_of d x)
    unfolding pattern_at gathered
    its_pattern state g = rw (one_bit d x l, ← i, ← j) (omega arith)

    its_bytes : (pattern : ℕ) (after : List ℕ) → pattern ≤ 1 → after ≡ with_bit bytes index bit pattern
        → after ≡ with_pattern d layout bytes (setting_of d x) pattern
    unfolding with_pattern with_bits
    its_bytes pattern after low g = let own : pattern / 2 ^ 0 % 2 ≡ pattern = omega arith in rw (one_bit d x l, ← i, ← j, own) g

    module _ (q : above_in d layout bytes (setting_of d x) ≡ bytes_of d layout) where
      pub read_state : (state : ℕ) → state ≡ bit_at bytes index bit → accepted state ≡ read_pattern d layout bytes x
      read_state state g =
          reads_clean d layout bytes x k n (number_there d x l) (setting_of d x) refl (bytes_of d layout) q
          state (omega (arith, n)) (its_pattern state g)

      pub set_state : (pattern : ℕ) (after : List ℕ) → pattern ≤ 1 → after ≡ with_bit bytes index bit pattern
          → PatternGives d layout bytes x pattern (accepted tt) after
      set_state pattern after low g =
          sets_clean d layout bytes x k n (number_there d x l) (setting_of d x) refl pattern (fits_in d x l pattern low) (bytes_of d layout)
          q after (omega (arith, n)) (its_bytes pattern after low g)
