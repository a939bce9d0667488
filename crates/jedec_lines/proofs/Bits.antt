-- The characters of a number's low bits; those of an image's fuses, and the word that holds them.
-- Assumes nothing.
use mathlib.Core.Path.{◌≡◌, refl, sym, ◌∙◌, ap, ap₂, subst}
use mathlib.Core.List.{List, [], ◌∷◌, ◌++◌, map}
use Prim.Native.Nat.{ℕ, zero, suc, ◌+◌, ◌*◌, ◌-◌, ◌/◌, ◌%◌, ◌^◌, ◌≤◌, ◌<◌}
use native.Mathlib.Omega.{arith}
use native.Mathlib.Numerals.{one-add}
use native.Mathlib.Nat.{div-one, zero-add, suc-add, mul-one}
use lib.ListN.{length, drop, replicate, length-map, length-replicate}
use lib.Pow.{shr-shr}
use Rattle.cells.specs.Cells.{cut, join, total, number}
use Rattle.cells.proofs.Laws.{cut_length, cut_low, total_replicate, piece}
use Rattle.image.proofs.Numbers.{number_bit}
use Rattle.jedec.specs.Characters.{space, decimal_digit}
use Rattle.jedec.specs.WrittenText.{states_text, columns_text}
use Rattle.jedec_lines.specs.Columns.{bits_text, columns_of}
use Rattle.jedec_lines.proofs.Words.{Bytes}

-- The characters of a number's low bits are so many bytes, and those of more bits follow them.
pub bits_length : (width x : ℕ) → length (bits_text width x) ≡ width
unfolding bits_text
bits_length width x =
    length-map (cut (replicate width 1) x) decimal_digit ∙ cut_length (replicate width 1) x ∙ length-replicate {A = ℕ} width 1

pub bits_bytes : (width x : ℕ) → Bytes (bits_text width x)
unfolding bits_text cut
bits_bytes zero x = tt
bits_bytes (suc width) x = (omega arith, bits_bytes width (x / 2 ^ 1))

pub bits_append : (width more x : ℕ) → bits_text (width + more) x ≡ bits_text width x ++ bits_text more (x / 2 ^ width)
unfolding bits_text cut
bits_append zero more x = rw (zero-add more, div-one x)
bits_append (suc width) more x =
    let e : x / 2 ^ 1 / 2 ^ width ≡ x / 2 ^ suc width = shr-shr x 1 width ∙ ap (λ (k : ℕ). x / 2 ^ k) (one-add width) in
    rw (suc-add width more, ← e) (ap (λ (l : List ℕ). decimal_digit (x % 2 ^ 1) ∷ l) (bits_append width more (x / 2 ^ 1)))

pub bits_low : (width more x : ℕ) → bits_text width (x % 2 ^ (more + width)) ≡ bits_text width x
unfolding bits_text
bits_low width more x =
    let e : total (replicate width 1) ≡ width = total_replicate width 1 ∙ mul-one width in
    ap (map decimal_digit)
    (subst (λ (t : ℕ). cut (replicate width 1) (x % 2 ^ (more + t)) ≡ cut (replicate width 1) x) e (cut_low (replicate width 1) x more))

bits_own : (width x : ℕ) → bits_text width (x % 2 ^ width) ≡ bits_text width x
bits_own width x = subst (λ (t : ℕ). bits_text width (x % 2 ^ t) ≡ bits_text width x) (zero-add width) (bits_low width 0 x)

-- The states of an image's fuses are the bits of its number.
states_bits : (image : List ℕ) (width fuse : ℕ) → fuse + width ≤ length image * 8
    → states_text image fuse width ≡ bits_text width (number image / 2 ^ fuse)
unfolding states_text bits_text cut
states_bits image zero fuse h = refl
states_bits image (suc width) fuse h =
    ap₂ ◌∷◌ (ap decimal_digit (sym (number_bit image fuse (omega arith))))
    (states_bits image width (fuse + 1) (omega arith) ∙ ap (bits_text width) (sym (shr-shr (number image) fuse 1)))

-- The columns of an image are those of its number.
pub columns_bits : (image widths : List ℕ) (fuse : ℕ) → fuse + total widths ≤ length image * 8
    → columns_text image fuse widths ≡ columns_of (number image / 2 ^ fuse) widths
unfolding columns_text columns_of total
columns_bits image [] fuse h = refl
columns_bits image (w ∷ widths) fuse h =
    ap₂ (λ (l m : List ℕ). space ∷ l ++ m) (states_bits image w fuse (omega arith))
    (columns_bits image widths (fuse + w) (omega arith) ∙ ap (λ (y : ℕ). columns_of y widths) (sym (shr-shr (number image) fuse w)))

-- The bits of the widths alone give the columns.
pub columns_same : (widths : List ℕ) (x y : ℕ) → cut widths x ≡ cut widths y → columns_of x widths ≡ columns_of y widths
unfolding columns_of cut
columns_same [] x y e = refl
columns_same (w ∷ widths) x y e =
    let first : x % 2 ^ w ≡ y % 2 ^ w = cc in
    let rest : cut widths (x / 2 ^ w) ≡ cut widths (y / 2 ^ w) = cc in
    ap₂ (λ (l m : List ℕ). space ∷ l ++ m) (sym (bits_own w x) ∙ ap (bits_text w) first ∙ bits_own w y)
    (columns_same widths (x / 2 ^ w) (y / 2 ^ w) rest)

-- The eight bytes from an index on hold the bits of an image from a fuse on.
bits_at : (image : List ℕ) (fuse p s w : ℕ) → w ≡ join (replicate 8 8) (drop p image) → p + 8 ≤ length image → p * 8 + s ≡ fuse
    → (widths : List ℕ) → s + total widths ≤ 64 → cut widths (w / 2 ^ s) ≡ cut widths (number image / 2 ^ fuse)
bits_at image fuse p s w e h f widths g =
    rw e (piece image widths p s 8 h g ∙ ap (λ (t : ℕ). cut widths (number image / 2 ^ t)) f)

pub bits_below : (image : List ℕ) (fuse w : ℕ) → fuse / 8 < length image - 8 → w ≡ join (replicate 8 8) (drop (fuse / 8) image)
    → (widths : List ℕ) → total widths ≤ 56 → fuse + total widths ≤ length image * 8
    → cut widths (w / 2 ^ (fuse % 8)) ≡ cut widths (number image / 2 ^ fuse)
bits_below image fuse w h e widths few g = bits_at image fuse (fuse / 8) (fuse % 8) w e (omega arith) (omega arith) widths (omega arith)

pub bits_last : (image : List ℕ) (fuse w : ℕ) → 8 ≤ length image → length image - 8 ≤ fuse / 8
    → w ≡ join (replicate 8 8) (drop (length image - 8) image)
    → (widths : List ℕ) → total widths ≤ 56 → fuse + total widths ≤ length image * 8
    → cut widths (w / 2 ^ (fuse - (length image - 8) * 8)) ≡ cut widths (number image / 2 ^ fuse)
bits_last image fuse w enough h e widths few g =
    bits_at image fuse (length image - 8) (fuse - (length image - 8) * 8) w e (omega arith) (omega arith) widths (omega arith)
