-- What follows ETX, said of the bytes still to come, so that a loop keeps it.
-- Assumes nothing.
use mathlib.Core.Path.{◌≡◌, refl, ap}
use mathlib.Core.Bool.{Bool, true, false}
use mathlib.Core.List.{List, [], ◌∷◌}
use mathlib.Core.Option.Option.{none, some}
use Prim.Native.Nat.{ℕ, suc, ◌+◌, ◌*◌, ◌-◌, ◌≤◌, ◌<◌}
use native.Mathlib.Omega.{arith}
use native.Mathlib.Nat.{add-zero}
use native.Mathlib.Numerals.{add-one}
use lib.ListN.{length, get_or, drop, drop_of_length-le}
use lib.Seq.{drop-cons}
use Rattle.jedec.specs.Characters.{is_blank, hex_value}
use Rattle.jedec.specs.Cut.{blanks_before, Tail, tail_from}
use Rattle.jedec.specs.Cut.Tail.{given, wrong}

-- After the four digits: the sum where blanks alone are left, or else the first other byte.
pub blanks_alone : (bytes : List ℕ) (at sum : ℕ) → blanks_before bytes ≡ length bytes → tail_from at 0 sum bytes ≡ given sum
unfolding tail_from blanks_before
blanks_alone [] at sum e = refl
blanks_alone (b ∷ bytes) at sum e = go (is_blank b) refl (blanks_alone bytes (at + 1) sum)
  where
    go : (t : Bool) → is_blank b ≡ t → (blanks_before bytes ≡ length bytes → tail_from (at + 1) 0 sum bytes ≡ given sum)
        → tail_from at 0 sum (b ∷ bytes) ≡ given sum
    go true h ih = rw h (ih (omega (arith, rw h at e)))
    go false h ih = let z : ◌≡◌ {A = ℕ} 0 (suc (length bytes)) = rw h at e in absurd (omega arith)

pub other_first : (bytes : List ℕ) (at sum : ℕ) → blanks_before bytes < length bytes
    → tail_from at 0 sum bytes ≡ wrong (at + blanks_before bytes)
unfolding tail_from blanks_before
other_first [] at sum l = absurd (omega arith)
other_first (b ∷ bytes) at sum l = go (is_blank b) refl (other_first bytes (at + 1) sum)
  where
    go : (t : Bool) → is_blank b ≡ t
        → (blanks_before bytes < length bytes → tail_from (at + 1) 0 sum bytes ≡ wrong (at + 1 + blanks_before bytes))
        → tail_from at 0 sum (b ∷ bytes) ≡ wrong (at + blanks_before (b ∷ bytes))
    go true h ih =
        let less : suc (blanks_before bytes) < suc (length bytes) = rw h at l in
        let next : at + suc (blanks_before bytes) ≡ at + 1 + blanks_before bytes = omega arith in
        rw (h, next) (ih (omega (arith, less)))
    go false h ih = rw (h, add-zero at) refl

module _ (text : List ℕ) (i sum : ℕ) (all : Tail) (left : ℕ) (more : 0 < left) (h : tail_from i left sum (drop i text) ≡ all) where
  e : left ≡ suc (left - 1)
  e = omega arith

  pub tail_early : length text ≤ i → wrong i ≡ all
  unfolding tail_from
  tail_early l = rw (drop_of_length-le text l, e) at h

  module _ (l : i < length text) where
    pub tail_wrong : none ≡ hex_value (get_or text i 0) → wrong i ≡ all
    unfolding tail_from
    tail_wrong n = rw (drop-cons text i 0 l, e, ← n) at h

    pub tail_digit : (y : ℕ) → some y ≡ hex_value (get_or text i 0)
        → tail_from (i + 1) (left - 1) (sum * 16 + y) (drop (i + 1) text) ≡ all
    unfolding tail_from
    tail_digit y s =
        let to : drop (i + 1) text ≡ drop (suc i) text = ap (λ (k : ℕ). drop k text) (add-one i) in
        rw to (rw (drop-cons text i 0 l, e, ← s) at h)
