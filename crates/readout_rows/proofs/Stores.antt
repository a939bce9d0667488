-- A loop that fills a slice, some bytes at each step, and what a step reads of a source.
-- Assumes nothing.
use mathlib.Core.Path.{◌≡◌, refl, sym, ◌∙◌, ap}
use mathlib.Core.List.{List, [], ◌∷◌, ◌++◌, append-nil, append_assoc}
use Prim.Native.Nat.{ℕ, zero, suc, ◌+◌, ◌*◌, ◌%◌, ◌^◌, ◌≤◌, ◌<◌}
use native.Mathlib.Omega.{arith}
use native.Mathlib.Nat.{suc-mul, mul-le-mul_right, not-suc-le-zero, le_of_suc-le-suc, zero-add, le_of_eq}
use borrow.Rule.Slice.PartMut.{put_mid}
use lib.ListN.{length, take, drop, length-append, length-drop, take-append-drop, drop_of_length-le}
use lib.Seq.{sets, sets-eq}
use Rattle.std.proofs.Common.{length-take-le, take_all}
use Rattle.std.proofs.lemmas.Slice.{take-put_mid}
use Rattle.cells.specs.Cells.{join, repeat}

-- Equal steps of a loop lie in what all of them take.
pub turn_within : (k count size long : ℕ) → k < count → count * size ≤ long → k * size + size ≤ long
turn_within k count size long h g = omega (arith, mul-le-mul_right size h, suc-mul k size)

-- What holds after k of `count` steps, of which each fills `size` bytes: `made` gives the bytes of so many steps.
pub record Filled (made : ℕ → List ℕ) (size : ℕ) (out : List ℕ) (count k : ℕ) : Type 0 where
  pub long : length out ≡ count * size
  pub filled : take (k * size) out ≡ made k

pub none_filled : (made : ℕ → List ℕ) (size : ℕ) (out : List ℕ) (count : ℕ) → length out ≡ count * size → made 0 ≡ []
    → Filled made size out count 0
none_filled made size out count l e = let none : 0 * size ≡ 0 = omega arith in record { long = l; filled = rw none (sym e) }

module _ {made : ℕ → List ℕ} {size : ℕ} {out : List ℕ} {count k : ℕ} (now : Filled made size out count k) where
  pub filled_step : (one : List ℕ) (at s : ℕ) → k < count → at ≡ k * size → s ≡ size → length one ≡ size → made (k + 1) ≡ made k ++ one
      → Filled made size (put_mid at s out one) count (k + 1)
  filled_step one at s h ea es el em =
      let inside : at + s ≤ length out = omega (arith, turn_within k count size (length out) h (omega (arith, now.long))) in
      let front : at ≤ length out = omega arith in
      let next : (k + 1) * size ≡ at + length one = omega arith in
      record {
        long = omega (
          arith,
          length-append (take at out) (one ++ drop s (drop at out)),
          length-append one (drop s (drop at out)),
          length-take-le at out front,
          length-drop s (drop at out),
          length-drop at out,
          now.long,
        );
        filled = take-put_mid at s out one ((k + 1) * size) next front ∙ ap (λ (n : ℕ). take n out ++ one) ea
            ∙ ap (λ (l : List ℕ). l ++ one) now.filled ∙ sym em;
      }

  pub filled_all : k ≤ count → count ≤ k → out ≡ made count
  filled_all h g =
      let all : k ≡ count = omega arith in
      sym (take_all (k * size) out (omega (arith, now.long, ap (λ (n : ℕ). n * size) all))) ∙ now.filled ∙ ap made all

-- A list once more.
pub repeat_more : (k : ℕ) (ws : List ℕ) → repeat (k + 1) ws ≡ repeat k ws ++ ws
unfolding repeat
repeat_more zero ws = append-nil ws
repeat_more (suc k) ws =
    let more : suc k + 1 ≡ suc (k + 1) = omega arith in
    rw more (ap (λ (l : List ℕ). ws ++ l) (repeat_more k ws) ∙ sym (append_assoc ws (repeat k ws) ws))

-- Only as many cells are joined as there are widths.
join_front : (ws x rest : List ℕ) → length ws ≤ length x → join ws (x ++ rest) ≡ join ws x
unfolding join
join_front [] x rest h = refl
join_front (w ∷ ws) [] rest h = absurd (not-suc-le-zero h)
join_front (w ∷ ws) (c ∷ x) rest h = ap (λ (y : ℕ). y * 2 ^ w + c % 2 ^ w) (join_front ws x rest (le_of_suc-le-suc h))

pub join_few_cells : (ws cells : List ℕ) (n : ℕ) → length ws ≤ n → n ≤ length cells → join ws (take n cells) ≡ join ws cells
join_few_cells ws cells n h g =
    sym (join_front ws (take n cells) (drop n cells) (omega (arith, length-take-le n cells g))) ∙ ap (join ws) (take-append-drop n cells)

-- Stores that fill a slice leave nothing of what it held.
pub sets_whole : (out cells : List ℕ) → length out ≡ length cells → sets out 0 cells ≡ cells
sets_whole out cells e =
    sets-eq cells out 0 (omega arith)
    ∙ rw (zero-add (length cells), drop_of_length-le out (le_of_eq e)) (append-nil cells)
