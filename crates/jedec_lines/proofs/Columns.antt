-- The words that the code makes of bits, each the number of the characters meant, and a column put by them.
-- Assumes nothing.
use mathlib.Core.Path.{◌≡◌, refl, sym, ◌∙◌, ap, ap₂}
use mathlib.Core.Bool.{Bool, true}
use mathlib.Core.List.{List, [], ◌∷◌, ◌++◌}
use Prim.Native.Nat.{ℕ, suc, ◌+◌, ◌*◌, ◌-◌, ◌/◌, ◌%◌, ◌^◌, ◌≤◌, ◌<◌}
use native.Mathlib.Omega.{arith}
use native.Mathlib.Numerals.{add-one}
use native.Mathlib.Nat.{mod-lt}
use lib.Bits.{bit_and, and_le_r}
use lib.Dec.{eqb}
use lib.ListN.{length, replicate}
use lib.Pow.{pow_pos, field, mod-mod-pow}
use lib.Seq.{sets}
use borrow.Author.Tests.{eqb-true}
use Rattle.cells.specs.Cells.{cut, join, total, number}
use Rattle.part.proofs.Tables.{all_below, below_all}
use Rattle.jedec.specs.Characters.{space}
use Rattle.jedec_lines.specs.Columns.{bits_text, column_text, Stored}
use Rattle.jedec_lines.proofs.Words.{cut_number, number_small}
use Rattle.jedec_lines.proofs.Bits.{bits_length, bits_bytes, bits_append, bits_low}

-- Seven bits, spread to one a byte, and the character 0 added to each are seven characters. A computed test shows it.
abbrev pub apart : ℕ → ℕ
apart bits = bit_and (bits * 0x0002040810204081) 0x0101010101010101

pub apart_small : (bits : ℕ) → apart bits ≤ 0x0101010101010101
apart_small bits = and_le_r (bits * 0x0002040810204081) 0x0101010101010101

seven_right : ℕ → Bool
seven_right i = eqb (apart i + 0x3030303030303030) (number (bits_text 8 i))

seven_all : all_below seven_right 128 ≡ true
unfolding seven_right bits_text number cut join
seven_all = refl

pub seven_bits : (bits low : ℕ) → low ≡ bits % 2 ^ 7 → apart low + 0x3030303030303030 ≡ number (bits_text 8 (bits % 2 ^ 7))
unfolding seven_right
seven_bits bits low e = rw e (eqb-true _ _ (below_all seven_right 128 seven_all (bits % 2 ^ 7) (mod-lt bits (pow_pos 7))))

-- The eighth bit is added above the seven.
eight_right : ℕ → Bool
eight_right i = eqb (number (bits_text 8 (i % 2 ^ 7)) + i / 2 ^ 7 * 2 ^ 56) (number (bits_text 8 i))

eight_all : all_below eight_right 256 ≡ true
unfolding eight_right bits_text number cut join
eight_all = refl

pub eight_bits : (bits seven top : ℕ) → seven ≡ number (bits_text 8 (bits % 2 ^ 7)) → top ≡ bits / 2 ^ 7 % 2 ^ 1
    → seven + top * 2 ^ 56 ≡ number (bits_text 8 (bits % 2 ^ 8))
unfolding eight_right
eight_bits bits seven top e f =
    e' (sym (mod-mod-pow bits 1 7)) (sym (field bits 1 7))
    ∙ eqb-true _ _ (below_all eight_right 256 eight_all (bits % 2 ^ 8) (mod-lt bits (pow_pos 8)))
  where
    e' : bits % 2 ^ 7 ≡ bits % 2 ^ 8 % 2 ^ 7 → bits / 2 ^ 7 % 2 ^ 1 ≡ bits % 2 ^ 8 / 2 ^ 7
        → seven + top * 2 ^ 56 ≡ number (bits_text 8 (bits % 2 ^ 8 % 2 ^ 7)) + bits % 2 ^ 8 / 2 ^ 7 * 2 ^ 56
    e' low high = ap₂ (λ (x y : ℕ). x + y * 2 ^ 56) (e ∙ ap (λ (y : ℕ). number (bits_text 8 y)) low) (f ∙ high)

-- A shift by a byte and a space give a space before seven characters.
spaced_right : ℕ → Bool
spaced_right i = eqb (number (bits_text 8 i) * 2 ^ 8 % 2 ^ 64 + 32) (number (space ∷ bits_text 7 i))

spaced_all : all_below spaced_right 128 ≡ true
unfolding spaced_right bits_text number cut join
spaced_all = refl

module _ (bits seven : ℕ) (e : seven ≡ number (bits_text 8 (bits % 2 ^ 7))) where
  pub spaced_bits : seven * 2 ^ 8 % 2 ^ 64 + 32 ≡ number (space ∷ bits_text 7 (bits % 2 ^ 7))
  unfolding spaced_right
  spaced_bits = rw e (eqb-true _ _ (below_all spaced_right 128 spaced_all (bits % 2 ^ 7) (mod-lt bits (pow_pos 7))))

  pub spaced_small : seven * 2 ^ 8 % 2 ^ 64 + 32 < 2 ^ 64
  unfolding bits_text cut total
  spaced_small = rw spaced_bits (number_small (space ∷ bits_text 7 (bits % 2 ^ 7)))

-- The code's word for a space holds a space.
blank : cut (replicate 1 8) 0x20 ≡ space ∷ []
unfolding cut
blank = refl

-- The characters of more bits than a column has begin with those of the column.
column_of_lem : (width k word : ℕ) → width ≤ k
    → bits_text k (word % 2 ^ k) ≡ bits_text width word ++ bits_text (k - width) (word % 2 ^ k / 2 ^ width)
column_of_lem width k word h =
    let x = word % 2 ^ k in
    let whole : width + (k - width) ≡ k = omega arith in
    let more : k - width + width ≡ k = omega arith in
    let own : bits_text width x ≡ bits_text width word =
    ap (λ (n : ℕ). bits_text width (word % 2 ^ n)) (sym more) ∙ bits_low width (k - width) word in
    ap (λ (n : ℕ). bits_text n x) (sym whole) ∙ bits_append width (k - width) x
    ∙ ap (λ (l : List ℕ). l ++ bits_text (k - width) (x / 2 ^ width)) own

-- A column of eight bits is stored as a space and a word, a narrower one as one word.
pub wide_column : (out one two : List ℕ) (at width word r : ℕ) → width ≡ 8 → r ≡ number (bits_text 8 (word % 2 ^ 8))
    → one ≡ sets out at (cut (replicate 1 8) 0x20) → two ≡ sets one (at + 1) (cut (replicate 8 8) r)
    → Stored out two at (column_text width word)
wide_column out one two at width word r h e e1 e2 =
    let x = word % 2 ^ 8 in
    let bytes : cut (replicate 8 8) r ≡ bits_text 8 x = rw e
    (ap (λ (n : ℕ). cut (replicate n 8) (number (bits_text 8 x))) (sym (bits_length 8 x)) ∙ cut_number (bits_text 8 x) (bits_bytes 8 x)) in
    record {
      more = bits_text (8 - width) (x / 2 ^ width);
      few = omega (arith, bits_length (8 - width) (x / 2 ^ width));
      holds = e2 ∙ rw (e1, blank, bytes, add-one at)
          (ap (λ (l : List ℕ). sets out at (space ∷ l)) (column_of_lem width 8 word (omega arith)));
    }

pub narrow_column : (out two : List ℕ) (at width word r : ℕ) → 6 ≤ width → width ≤ 8 → (width ≡ 8 → ⊥)
    → r ≡ number (space ∷ bits_text 7 (word % 2 ^ 7)) → two ≡ sets out at (cut (replicate 8 8) r)
    → Stored out two at (column_text width word)
narrow_column out two at width word r h g n e e2 =
    let x = word % 2 ^ 7 in
    let long : length (space ∷ bits_text 7 x) ≡ 8 = ap suc (bits_length 7 x) in
    let bytes : cut (replicate 8 8) r ≡ space ∷ bits_text 7 x =
    rw e (ap (λ (k : ℕ). cut (replicate k 8) (number (space ∷ bits_text 7 x))) (sym long)
    ∙ cut_number (space ∷ bits_text 7 x) (omega arith, bits_bytes 7 x)) in
    record {
      more = bits_text (7 - width) (x / 2 ^ width);
      few = omega (arith, bits_length (7 - width) (x / 2 ^ width));
      holds = e2 ∙ rw bytes (ap (λ (l : List ℕ). sets out at (space ∷ l)) (column_of_lem width 7 word (omega arith)));
    }
