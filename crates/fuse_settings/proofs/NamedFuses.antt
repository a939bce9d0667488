-- Which fuses are named: of a main area by row, column and bit, by the class, and by whether the block is the first; every fuse of a
-- wire-AND area. `always_listed_lem` serves `setting_at_fuse`, the other laws the count of the unnamed fuses (proofs/Unnamed.antt).
use mathlib.Core.Path.{◌≡◌, refl, sym, ◌∙◌, ap, subst}
use mathlib.Core.Bool.{Bool, true, false, cond, ◌&&◌, true≢false}
use mathlib.Core.Option.Option.{none, some}
use Prim.Native.Nat.{ℕ, ◌+◌, ◌*◌, ◌/◌, ◌%◌, ◌<◌}
use native.Mathlib.Omega.{arith}
use lib.Dec.{ltb, eqb}
use borrow.Author.Tests.{lt-ltb, eqb-true, eqb-false, eq-eqb}
use Rattle.part.specs.Device.{known, blocks_of, fuse_count, main_rows, main_columns, wire_and_columns, wire_and_width}
use Rattle.part.specs.Place.{has_place, fuse_of_place, place_of_fuse}
use Rattle.part.specs.declared.Device.{Device}
use Rattle.part.specs.declared.Place.{Place}
use Rattle.part.specs.declared.BytePlace.{BytePlace}
use Rattle.part.specs.declared.BytePlace.TheVariants as byte
use Rattle.part.proofs.Facts.{and_iff, by_cases, tests}
use Rattle.part.proofs.Fuses.{at_fuse, of_place}
use Rattle.settings.specs.Fields.{macrocells, terms, inputs, foes, macrocell_fields, macrocell_index, global_fields, global_index}
use Rattle.settings.specs.Settings.{has_setting}
use Rattle.settings.specs.declared.Polarity.{Polarity}
use Rattle.settings.specs.declared.Polarity.TheVariants.{P, N}
use Rattle.settings.specs.declared.MacrocellField.{MacrocellField}
use Rattle.settings.specs.declared.BlockField.{BlockField}
use Rattle.settings.specs.declared.BlockField.TheVariants.{Enable, ExportEnable, PullupDisable, ReadProtA, ReadProtB, WriteProt}
use Rattle.settings.specs.declared.GlobalField.{GlobalField}
use Rattle.settings.specs.declared.GlobalField.TheVariants.{FsrInv, FclkInv, FoeInv, FclkMux, FoeMux, Usercode}
use Rattle.settings.specs.declared.Setting.{Setting}
use Rattle.settings.specs.declared.Setting.TheVariants.{Literal, WireAnd, Macrocell, Block, Global}
use Rattle.setting_places.specs.Places.{main, wire_and, literal_row, bits_of, block_place, global_place, place_of, fuse_of, lists}
use Rattle.fuse_settings.specs.Back.{polarity_of_row, candidate_in_main, candidate_in, candidate_at, always_listed, if_listed, setting_at}
use Rattle.fuse_settings.specs.Unnamed.{one_if_none}
use Rattle.fuse_settings.specs.declared.SettingBit.{SettingBit}
use Rattle.setting_places.proofs.OnePlaceEach.{has_place_lem}
use Rattle.setting_places.proofs.Laws.{listed}
use Rattle.fuse_settings.proofs.Laws.{left_inverse}

-- Whether a place of a main area is this one: its block, and the rest of it.
abbrev of_block : ℕ → BytePlace → Bool
of_block block (byte.Main b r c) = eqb b block
of_block block (byte.WireAnd b s r c) = false

abbrev in_column : (row column : ℕ) → BytePlace → Bool
in_column row column (byte.Main b r c) = eqb r row && eqb c column
in_column row column (byte.WireAnd b s r c) = false

abbrev at_bit : (row column bit : ℕ) → Place → Bool
at_bit row column bit p = in_column row column p.byte && eqb p.bit bit

abbrev is_main : (block row column bit : ℕ) → Place → Bool
is_main block row column bit p = of_block block p.byte && at_bit row column bit p

module _ (block row column bit : ℕ) where
  is_itself : is_main block row column bit (main block row column bit) ≡ true
  is_itself = simp tests (refl, ((refl, refl), refl))

  is_main_lem : (b : BytePlace) (k : ℕ) → is_main block row column bit (record { byte = b; bit = k }) ≡ true
      → record { byte = b; bit = k } ≡ main block row column bit
  is_main_lem (byte.Main b r c) k h =
      let facts = simp tests at h in rw (facts.0, facts.1.0.0, facts.1.0.1, facts.1.1)
  is_main_lem (byte.WireAnd b s r c) k h = absurd (true≢false (sym h))

-- The settings of a main area, whatever its block: whether there is such a one, with so many FOE.
abbrev has_with : (foeCount : ℕ) → Setting → Bool
has_with e (Literal block j k l polarity) = ltb j macrocells && ltb k terms && ltb l inputs
has_with e (WireAnd i j k l) = false
has_with e (Macrocell block m field) = ltb m macrocells && ltb (macrocell_index field) macrocell_fields
has_with e (Block block field) = true
has_with e (Global field) = ltb (global_index e field) (global_fields e)

-- Whether it stands in this block: a global one stands in the first only.
abbrev stands : (first : Bool) → Setting → Bool
stands first (Literal block j k l polarity) = true
stands first (WireAnd i j k l) = false
stands first (Macrocell block m field) = true
stands first (Block block field) = true
stands first (Global field) = first

-- Whether the candidate at a row, column and bit is one that lies there.
abbrev pub named : (foeCount : ℕ) (first : Bool) (row column bit : ℕ) → SettingBit → Bool
named e first row column bit c =
    (stands first c.setting && at_bit row column bit (place_of c.setting c.bit))
    && (has_with e c.setting && ltb c.bit (bits_of c.setting))

-- The row of an input and a polarity, for the input and the polarity of a row.
row_of_literal : (row : ℕ) → literal_row (row / 2) (polarity_of_row row) ≡ row
row_of_literal row = go (eqb (row % 2) 1) refl
  where
    go : (t : Bool) → eqb (row % 2) 1 ≡ t → literal_row (row / 2) (cond t P N) ≡ row
    go true e = omega (arith, eqb-true (row % 2) 1 e)
    go false e = let even : row % 2 ≡ 1 → ⊥ = eqb-false (row % 2) 1 e in omega arith

-- Below bit 6 the candidate is a literal, and it lies there.
literal_lies : (e : ℕ) (first : Bool) (block row column bit : ℕ) → row < main_rows → column < main_columns → bit < 6
    → named e first row column bit
    (record { setting = Literal block (column / 5 + 3 * bit) (column % 5) (row / 2) (polarity_of_row row); bit = 0 }) ≡ true
unfolding place_of bits_of
literal_lies e first block row column bit hr hc hb =
    let up : (column / 5 + 3 * bit) / 3 ≡ bit = omega arith in
    simp tests ((refl, ((row_of_literal row, omega arith), up)), (((omega arith, omega arith), omega arith), omega arith))

pub literal_named : (e : ℕ) (first : Bool) (block row column bit : ℕ) → row < main_rows → column < main_columns → bit < 6
    → named e first row column bit (candidate_in_main block row column bit) ≡ true
literal_named e first block row column bit hr hc hb =
    rw (lt-ltb bit 6 hb) (literal_lies e first block row column bit hr hc hb)

-- What may be a candidate in the main area of a block.
data InMain (block : ℕ) : Setting → Type 0 where
  literal : (j k l : ℕ) (polarity : Polarity) → InMain block (Literal block j k l polarity)
  macrocell : (m : ℕ) (field : MacrocellField) → InMain block (Macrocell block m field)
  blocks : (field : BlockField) → InMain block (Block block field)
  global : (field : GlobalField) → InMain block (Global field)

abbrev CandidateInMain : ℕ → SettingBit → Type 0
CandidateInMain block c = InMain block c.setting

candidate_in_main_lem : (block row column bit : ℕ) → CandidateInMain block (candidate_in_main block row column bit)
candidate_in_main_lem block row column bit =
    by_cases (CandidateInMain block) bit 6 (λ l. literal _ _ _ _)
    (λ g. by_cases (CandidateInMain block) row 11 (λ l. global _)
    (λ g. by_cases (CandidateInMain block) row 12 (λ l. blocks _)
    (λ g. by_cases (CandidateInMain block) row 55 (λ l. macrocell _ _) (λ g. blocks _))))

-- A candidate that is always listed stands below bit 6.
abbrev LiteralBit : ℕ → SettingBit → Type 0
LiteralBit bit c = always_listed c.setting ≡ true → bit < 6

literal_bit : (block row column bit : ℕ) → LiteralBit bit (candidate_in_main block row column bit)
literal_bit block row column bit =
    by_cases (LiteralBit bit) bit 6 (λ l a. l)
    (λ g. by_cases (LiteralBit bit) row 11 (λ l. never)
    (λ g. by_cases (LiteralBit bit) row 12 (λ l. never)
    (λ g. by_cases (LiteralBit bit) row 55 (λ l. never) (λ g. never))))
  where
    never : false ≡ true → bit < 6
    never a = absurd (true≢false (sym a))

block_and_rest : (block : ℕ) (f : BlockField) → of_block block (block_place block f).byte ≡ true
block_and_rest block Enable = eq-eqb block block refl
block_and_rest block ExportEnable = eq-eqb block block refl
block_and_rest block PullupDisable = eq-eqb block block refl
block_and_rest block ReadProtA = eq-eqb block block refl
block_and_rest block ReadProtB = eq-eqb block block refl
block_and_rest block WriteProt = eq-eqb block block refl

in_first : (block : ℕ) (f : GlobalField) (bit : ℕ) → of_block block (global_place f bit).byte ≡ eqb 0 block
in_first block FsrInv bit = refl
in_first block (FclkInv c) bit = refl
in_first block (FoeInv e) bit = refl
in_first block (FclkMux c) bit = refl
in_first block (FoeMux e) bit = refl
in_first block Usercode bit = refl

module _ (block : ℕ) where
  stands_here : {s : Setting} (bit : ℕ) → InMain block s → of_block block (place_of s bit).byte ≡ stands (eqb 0 block) s
  unfolding place_of
  stands_here bit (literal j k l polarity) = eq-eqb block block refl
  stands_here bit (macrocell m field) = eq-eqb block block refl
  stands_here bit (blocks field) = block_and_rest block field
  stands_here bit (global field) = in_first block field bit

  has_with_lem : (d : Device) → block < blocks_of d → {s : Setting} → InMain block s → has_setting d s ≡ has_with (foes d) s
  unfolding has_setting
  has_with_lem d h (literal j k l polarity) = rw (lt-ltb block (blocks_of d) h)
  has_with_lem d h (macrocell m field) = rw (lt-ltb block (blocks_of d) h)
  has_with_lem d h (blocks field) = lt-ltb block (blocks_of d) h
  has_with_lem d h (global field) = refl

-- Two tests that pass together.
same_test : (a b : Bool) → (a ≡ true → b ≡ true) → (b ≡ true → a ≡ true) → a ≡ b
same_test true b to from = sym (to refl)
same_test false true to from = from refl
same_test false false to from = refl

one_unless : (t : Bool) (x : Setting × ℕ) → one_if_none (cond t (some x) none) ≡ cond t 0 1
one_unless true x = refl
one_unless false x = refl

some_unless : (t : Bool) (x : Setting × ℕ) → one_if_none (cond t (some x) none) ≡ 0 → some x ≡ cond t (some x) none
some_unless true x e = refl
some_unless false x e = absurd (omega arith)

-- The bits of a wire-AND row are its inputs.
input_of : (column bit : ℕ) → column < wire_and_columns → bit < wire_and_width column → column + 5 * bit < 36
input_of column bit h =
    by_cases (λ w. bit < w → column + 5 * bit < 36) column 1 (λ l b. omega arith) (λ g b. omega arith)

module _ (d : Device) (k : known d ≡ true) (f : ℕ) (below : f < fuse_count d) where
  -- A setting lists a fuse of a main area exactly if the place of its bit is the fuse's.
  lists_at : (block row column bit : ℕ) → main block row column bit ≡ place_of_fuse d f → (s : Setting) (b : ℕ)
      → (lists d s b && eqb (fuse_of d s b) f) ≡ (is_main block row column bit (place_of s b) && lists d s b)
  unfolding fuse_of
  lists_at block row column bit e s b =
      let p = place_of s b in
      let is = is_main block row column bit in
      let on = and_iff (lists d s b) (eqb (fuse_of d s b) f) in
      let at = and_iff (is p) (lists d s b) in
      same_test _ _
      (λ h.
      let l = listed d s b (on.0 h).0 in
      let place = (of_place d p (has_place_lem d s b k l.0 l.1)).1 in
      let same : main block row column bit ≡ p = e ∙ sym (ap (place_of_fuse d) (eqb-true _ f (on.0 h).1)) ∙ place in
      at.1 (subst (λ q. is q ≡ true) same (is_itself block row column bit), (on.0 h).0))
      (λ h.
      let same : p ≡ main block row column bit = is_main_lem block row column bit p.byte p.bit (at.0 h).0 in
      on.1 ((at.0 h).1, eq-eqb _ f (ap (fuse_of_place d) (same ∙ e) ∙ (at_fuse d f below).1)))

  -- A fuse of a main area is unnamed where the candidate does not lie there.
  pub main_unnamed : (block row column bit : ℕ) → block < blocks_of d → main block row column bit ≡ place_of_fuse d f
      → one_if_none (setting_at d f) ≡ cond (named (foes d) (eqb 0 block) row column bit (candidate_in_main block row column bit)) 0 1
  unfolding setting_at candidate_at
  main_unnamed block row column bit h e =
      rw (← e) (at_candidate (candidate_in_main block row column bit) (candidate_in_main_lem block row column bit))
    where
      at_candidate : (c : SettingBit) → CandidateInMain block c
          → one_if_none (if_listed d f c) ≡ cond (named (foes d) (eqb 0 block) row column bit c) 0 1
      at_candidate c i =
          rw (lists_at block row column bit e c.setting c.bit, stands_here block c.bit i, has_with_lem block d h i)
          (one_unless (named (foes d) (eqb 0 block) row column bit c) (c.setting, c.bit))

  -- Every fuse of a wire-AND area is named.
  pub wire_and_named : (block subarea row column bit : ℕ) → wire_and block subarea row column bit ≡ place_of_fuse d f
      → one_if_none (setting_at d f) ≡ 0
  unfolding has_place has_setting bits_of place_of fuse_of
  wire_and_named block subarea row column bit e =
      let lies = at_fuse d f below in
      let facts = simp tests at (subst (λ p. has_place d p ≡ true) (sym e) lies.0) in
      let s = WireAnd block (column + 5 * bit) subarea row in
      let input : column + 5 * bit < 36 = input_of column bit facts.0.1 facts.1 in
      let has : has_setting d s ≡ true = simp tests (((facts.0.0.0.0, input), facts.0.0.0.1), facts.0.0.1) in
      let left : (column + 5 * bit) % 5 ≡ column = omega arith in
      let up : (column + 5 * bit) / 5 ≡ bit = omega arith in
      let on : fuse_of d s 0 ≡ f = rw (left, up) (ap (fuse_of_place d) e ∙ lies.1) in
      ap one_if_none (ap (setting_at d) (sym on) ∙ (left_inverse d k).inverse s 0 ((and_iff (has_setting d s) true).1 (has, refl)))

  -- A literal or a wire-AND that is the candidate at the place of a fuse is the setting there.
  pub always_listed_lem : (c : SettingBit) → c ≡ candidate_at (place_of_fuse d f) → always_listed c.setting ≡ true
      → some (c.setting, c.bit) ≡ setting_at d f
  unfolding setting_at candidate_at has_place
  always_listed_lem c g a =
      let p = place_of_fuse d f in rw g (the_candidate (candidate_at p) (named_there p.byte p.bit refl (rw g at a)))
    where
      named_there : (b : BytePlace) (bit : ℕ) → record { byte = b; bit = bit } ≡ place_of_fuse d f
          → always_listed (candidate_in b bit).setting ≡ true → one_if_none (setting_at d f) ≡ 0
      named_there (byte.Main block row column) bit e a =
          let facts = simp tests at (subst (λ p. has_place d p ≡ true) (sym e) (at_fuse d f below).0) in
          let low = literal_bit block row column bit a in
          main_unnamed block row column bit facts.0.0.0 e
          ∙ rw (literal_named (foes d) (eqb 0 block) block row column bit facts.0.0.1 facts.0.1 low)
      named_there (byte.WireAnd block subarea row column) bit e a = wire_and_named block subarea row column bit e

      the_candidate : (c : SettingBit) → one_if_none (if_listed d f c) ≡ 0 → some (c.setting, c.bit) ≡ if_listed d f c
      the_candidate c = some_unless (lists d c.setting c.bit && eqb (fuse_of d c.setting c.bit) f) (c.setting, c.bit)
