-- The names of fields and of their bits: each is found in a table of them all, by one test of the table that antt computes.
-- Stated once for every device.
use mathlib.Core.Path.{◌≡◌, refl, ap, subst}
use mathlib.Core.Bool.{Bool, true, false, cond, ◌&&◌}
use mathlib.Core.List.{List, [], ◌∷◌, ◌++◌}
use mathlib.Core.Option.{Option}
use mathlib.Core.Option.Option.{none, some}
use Prim.Native.Nat.{ℕ, zero, suc, ◌<◌}
use native.Mathlib.Omega.{arith}
use lib.Dec.{eqb, ltb}
use lib.ListN.{length, drop}
use borrow.Author.Tests.{ltb-true}
use Rattle.part.specs.declared.Device.{Device}
use Rattle.part.proofs.Facts.{tests}
use Rattle.part.proofs.Tables.{all_below, below_all}
use Rattle.settings.specs.Fields.{foes, macrocell_fields, macrocell_index, block_fields, block_index, global_fields, global_index}
use Rattle.settings.specs.Order.{macrocell_field_at, block_field_at, global_field_at}
use Rattle.settings.specs.declared.MacrocellField.{MacrocellField}
use Rattle.settings.specs.declared.BlockField.{BlockField}
use Rattle.settings.specs.declared.GlobalField.{GlobalField}
use Rattle.settings.specs.declared.Setting.{Setting}
use Rattle.settings.specs.declared.Setting.TheVariants.{Macrocell, Block, Global}
use Rattle.settings.proofs.FieldIndices.{macrocell_at, block_at, global_at, by_class}
use Rattle.setting_places.specs.Places.{bits_of}
use Rattle.jedec.specs.Characters.{digits_of, space, and_then}
use Rattle.names.specs.Names.{Part, macrocell_parts, joined, spaced, parts_of, bit_text}
use Rattle.names.proofs.Words.{words}

-- Whether two words are the same, and two lists of words.
abbrev pub same_word : (u v : List ℕ) → Bool
same_word [] [] = true
same_word [] (y ∷ v) = false
same_word (x ∷ u) [] = false
same_word (x ∷ u) (y ∷ v) = eqb x y && same_word u v

abbrev same_words : (us vs : List (List ℕ)) → Bool
same_words [] [] = true
same_words [] (v ∷ vs) = false
same_words (u ∷ us) [] = false
same_words (u ∷ us) (v ∷ vs) = same_word u v && same_words us vs

-- An answer for one of the numbers below n, if there is one.
abbrev pub or_else : {A : Type 0} → Option A → Option A → Option A
or_else none other = other
or_else (some x) other = some x

abbrev among : {A : Type 0} → (ℕ → Option A) → ℕ → Option A
among answer zero = none
among answer (suc n) = or_else (answer n) (among answer n)

-- What there is if no words are left.
abbrev pub if_none : {A : Type 0} → List (List ℕ) → Option A → Option A
if_none [] answer = answer
if_none (w ∷ ws) answer = none

-- The words of a setting's name from word `from` on, and its bit.
abbrev pub words_from : (from : ℕ) → Setting → ℕ → List (List ℕ)
words_from from s bit = words (joined (drop from (parts_of s)) ++ bit_text s bit)

-- The test that an answer is this index and bit.
abbrev is : Option (ℕ × ℕ) → ℕ → ℕ → Bool
is none i b = false
is (some (j, c)) i b = eqb j i && eqb c b

is_some : (o : Option (ℕ × ℕ)) (i b : ℕ) → is o i b ≡ true → o ≡ some (i, b)
is_some none i b h = cc
is_some (some (j, c)) i b h = let both = simp tests at h in rw (both.0, both.1)

-- A table of n settings, known by at most so many words from word `from` on.
module _ (from most n : ℕ) (at : ℕ → Setting) where
  -- The index and the bit of these words, which `position` gives if they are no more than that.
  unfoldable pub in_table : List (List ℕ) → Option (ℕ × ℕ)
  in_table ws = among (λ i. among (λ b. cond (same_words (words_from from (at i) b) ws) (some (i, b)) none) (bits_of (at i))) n

  unfoldable pub position : List (List ℕ) → Option (ℕ × ℕ)
  position ws = if_none (drop most ws) (in_table ws)

  -- The setting there, and the bit.
  abbrev pub find : List (List ℕ) → Option (Setting × ℕ)
  find ws = and_then (position ws) (λ p. some (at p.0, p.1))

  -- The test of the table: each entry is found at its own index and bit.
  abbrev right : ℕ → ℕ → Bool
  right i b = is (position (words_from from (at i) b)) i b

  abbrev AllRight : Type 0
  AllRight = all_below (λ i. all_below (right i) (bits_of (at i))) n ≡ true

  found : AllRight → (i b : ℕ) (s : Setting) → at i ≡ s → i < n → b < bits_of s → find (words_from from s b) ≡ some (s, b)
  found all i b s e hi =
      subst (λ t. b < bits_of t → find (words_from from t b) ≡ some (t, b)) e
      (λ hb. let here = below_all (right i) (bits_of (at i)) (below_all (λ i. all_below (right i) (bits_of (at i))) n all i hi) b hb in
      rw (is_some (position (words_from from (at i) b)) i b here))

-- The three tables: of a macrocell's fields, of a block's and of the global ones.
abbrev pub macrocell_of : (block m : ℕ) → List (List ℕ) → Option (Setting × ℕ)
macrocell_of block m = find 2 2 macrocell_fields (λ i. Macrocell block m (macrocell_field_at i))

abbrev pub block_of : (block : ℕ) → List (List ℕ) → Option (Setting × ℕ)
block_of block = find 1 1 block_fields (λ i. Block block (block_field_at i))

abbrev pub global_of : (count : ℕ) → List (List ℕ) → Option (Setting × ℕ)
global_of count = find 0 1 (global_fields count) (λ i. Global (global_field_at count i))

-- What a table holds is found in it.
pub macrocell_found : (block m b : ℕ) (f : MacrocellField) → macrocell_index f < macrocell_fields → b < bits_of (Macrocell block m f)
    → macrocell_of block m (words_from 2 (Macrocell block m f) b) ≡ some (Macrocell block m f, b)
unfolding position in_table bits_of parts_of bit_text joined spaced digits_of
macrocell_found block m b f h =
    found 2 2 macrocell_fields (λ i. Macrocell block m (macrocell_field_at i)) refl (macrocell_index f) b (Macrocell block m f)
    (ap (Macrocell block m) (macrocell_at f h)) h

pub block_found : (block b : ℕ) (f : BlockField) → b < bits_of (Block block f)
    → block_of block (words_from 1 (Block block f) b) ≡ some (Block block f, b)
unfolding position in_table bits_of parts_of bit_text joined spaced digits_of
block_found block b f =
    found 1 1 block_fields (λ i. Block block (block_field_at i)) refl (block_index f) b (Block block f) (ap (Block block) (block_at f).1)
    (block_at f).0

pub global_found : (d : Device) (b : ℕ) (f : GlobalField) → global_index (foes d) f < global_fields (foes d) → b < bits_of (Global f)
    → global_of (foes d) (words_from 0 (Global f) b) ≡ some (Global f, b)
unfolding position in_table bits_of parts_of bit_text joined spaced digits_of
global_found d b f h =
    found 0 1 (global_fields (foes d)) (λ i. Global (global_field_at (foes d) i))
    (by_class d (λ e. AllRight 0 1 (global_fields e) (λ i. Global (global_field_at e i))) refl refl) (global_index (foes d) f) b (Global f)
    (ap Global (global_at d f h)) h

-- A macrocell's field has a part, so a space stands before its parts.
pub macrocell_space : (f : MacrocellField) → macrocell_index f < macrocell_fields
    → spaced (macrocell_parts f) ≡ space ∷ joined (macrocell_parts f)
unfolding spaced joined
macrocell_space f h =
    space_before (macrocell_parts f)
    (subst (λ g. 0 < length (macrocell_parts g)) (macrocell_at f h)
    (ltb-true _ _ (below_all (λ i. ltb 0 (length (macrocell_parts (macrocell_field_at i)))) macrocell_fields refl (macrocell_index f) h)))
  where
    space_before : (parts : List Part) → 0 < length parts → spaced parts ≡ space ∷ joined parts
    space_before [] l = absurd (omega arith)
    space_before (p ∷ parts) l = refl
