-- The names of a device's settings and bits: no two have the same name, and none is `unnamed`.
-- A setting and its bit are read back from the words of their name.
use mathlib.Core.Path.{◌≡◌, refl, ap}
use mathlib.Core.Bool.{true, cond}
use mathlib.Core.List.{List, [], ◌∷◌, ◌++◌}
use mathlib.Core.Option.{Option}
use mathlib.Core.Option.Option.{none, some}
use Prim.Native.Nat.{ℕ, ◌<◌}
use native.Mathlib.Omega.{arith}
use lib.ListN.{drop, get_or}
use Rattle.part.specs.Device.{known}
use Rattle.part.specs.declared.Device.{Device}
use Rattle.part.proofs.Facts.{tests}
use Rattle.part.proofs.Devices.{blocks_small}
use Rattle.settings.specs.Fields.{foes}
use Rattle.settings.specs.Settings.{has_setting}
use Rattle.settings.specs.declared.Polarity.{Polarity}
use Rattle.settings.specs.declared.Polarity.TheVariants.{P, N}
use Rattle.settings.specs.declared.Setting.{Setting}
use Rattle.settings.specs.declared.Setting.TheVariants.{Literal, WireAnd, Macrocell, Block, Global}
use Rattle.settings.proofs.FieldIndices.{by_class}
use Rattle.setting_places.specs.Places.{bits_of, lists}
use Rattle.jedec.specs.Characters.{digits_of}
use Rattle.jedec.specs.Quoted.{chars}
use Rattle.names.specs.Names.{name_of, setting_name, parts_of, joined, spaced, bit_text, polarity_name, unnamed}
use Rattle.names.proofs.Words.{words, first_word, number, indices}
use Rattle.names.proofs.Fields.{or_else, same_word, in_table, position, macrocell_of, block_of, global_of}
use Rattle.names.proofs.Fields.{macrocell_found, block_found, global_found, macrocell_space}

-- The number in word i.
abbrev number_at : List (List ℕ) → ℕ → ℕ
number_at ws i = number 0 (get_or ws i [])

-- The setting of five words: a wire-AND has its mark in the middle, and a literal its polarity at the end.
abbrev of_five : List (List ℕ) → Setting
of_five ws =
    cond (same_word (chars "UIM") (get_or ws 2 [])) (WireAnd (number_at ws 0) (number_at ws 1) (number_at ws 3) (number_at ws 4))
    (Literal (number_at ws 0) (number_at ws 1) (number_at ws 2) (number_at ws 3) (cond (same_word (chars "P") (get_or ws 4 [])) P N))

-- What there is if words are left.
abbrev if_more : List (List ℕ) → Option (Setting × ℕ) → Option (Setting × ℕ)
if_more [] answer = none
if_more (w ∷ ws) answer = answer

-- The setting and the bit of these words: a global field, a block's, a macrocell's, or a setting of five words.
read : (count : ℕ) → List (List ℕ) → Option (Setting × ℕ)
read count ws =
    or_else (global_of count ws)
    (or_else (block_of (number_at ws 0) (drop 1 ws))
    (or_else (macrocell_of (number_at ws 0) (number_at ws 1) (drop 2 ws)) (if_more (drop 4 ws) (some (of_five ws, 0)))))

-- A polarity is read back from its word, and each setting of a known device, with its bit, from the words of its name.
polarity_back : (p : Polarity) → cond (same_word (chars "P") (first_word ((polarity_name p ++ []) ++ []))) P N ≡ p
polarity_back P = refl
polarity_back N = refl

read_back : (d : Device) (s : Setting) (b : ℕ) → known d ≡ true → lists d s b ≡ true → read (foes d) (words (name_of s b)) ≡ some (s, b)
unfolding read position name_of setting_name parts_of joined spaced bit_text bits_of has_setting
read_back d (Literal i j k l p) b h has =
    let facts = simp tests at has in
    let small : (i < 36) × (j < 36) × (k < 36) × (l < 36) × (b ≡ 0) = omega (arith, blocks_small d h) in
    simp (indices, small.0, small.1, small.2, small.3, small.4, polarity_back)
read_back d (WireAnd i j k l) b h has =
    let facts = simp tests at has in
    let small : (i < 36) × (j < 36) × (k < 36) × (l < 36) × (b ≡ 0) = omega (arith, blocks_small d h) in
    simp (indices, small.0, small.1, small.2, small.3, small.4)
read_back d (Macrocell i j f) b h has =
    let facts = simp tests at has in
    let small : (i < 36) × (j < 36) = omega (arith, blocks_small d h) in
    simp (indices, small.0, small.1, macrocell_space f facts.0.1, macrocell_found i j b f facts.0.1 facts.1)
read_back d (Block i f) b h has =
    let facts = simp tests at has in
    let small : i < 36 = omega (arith, blocks_small d h) in simp (indices, block_found i b f facts.1)
read_back d (Global f) b h has = let facts = simp tests at has in simp (global_found d b f facts.0 facts.1)

-- No two settings and bits of a device have the same name.
pub names_apart : (d : Device) (s t : Setting) (b c : ℕ) → known d ≡ true → lists d s b ≡ true → lists d t c ≡ true
    → name_of s b ≡ name_of t c → (s ≡ t) × (b ≡ c)
names_apart d s t b c k hs ht e =
    let found : ◌≡◌ {A = Option (Setting × ℕ)} (some (s, b)) (some (t, c)) = cc (read_back d s b k hs, read_back d t c k ht) in
    let same : ◌≡◌ {A = Setting × ℕ} (s, b) (t, c) = cc found in
    (ap (λ p. p.0) same, ap (λ p. p.1) same)

-- None of them is named as a fuse that has no setting.
pub never_unnamed : (d : Device) (s : Setting) (b : ℕ) → known d ≡ true → lists d s b ≡ true → name_of s b ≡ unnamed → ⊥
unfolding read position in_table bits_of parts_of bit_text joined spaced digits_of
never_unnamed d s b k has e =
    let nothing : read (foes d) (words unnamed) ≡ none = by_class d (λ count. read count (words unnamed) ≡ none) refl refl in
    let z : ◌≡◌ {A = ℕ} 0 1 = cc (read_back d s b k has) in
    omega arith
