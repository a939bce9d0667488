-- Lists of indices within bounds: each has its own position below the product, and the first index that differs decides.
-- Stated for any bounds.
use mathlib.Core.Path.{◌≡◌, refl, ap}
use mathlib.Core.Bool.{true, ◌&&◌}
use mathlib.Core.List.{List, [], ◌∷◌}
use Prim.Native.Nat.{ℕ, ◌+◌, ◌*◌, ◌%◌, ◌<◌, ◌≤◌}
use native.Mathlib.Omega.{arith}
use native.Mathlib.Nat.{div-lt_iff_lt-mul, div-add-mod', mod-lt, mul-le-mul_right}
use lib.Arith.{digits_div, digits_mod, digits_lt}
use lib.Dec.{ltb, eqb}
use borrow.Author.Tests.{lt-ltb, le-ltb, eq-eqb, eqb-true, ltb-true}
use Rattle.part.proofs.Facts.{and_iff, compared, either}
use Rattle.settings.specs.Order.{product, position, at, earlier}

-- Each index is below its bound.
pub data Within : (bounds indices : List ℕ) → Type 0 where
  nil : Within [] []
  more : {b x : ℕ} {bs xs : List ℕ} → x < b → Within bs xs → Within (b ∷ bs) (x ∷ xs)

pub position_below : {bs xs : List ℕ} → Within bs xs → position bs xs < product bs
position_below nil = omega arith
position_below (more h w) = digits_lt h (position_below w)

-- A position and its indices.
pub at_position : {bs xs : List ℕ} → Within bs xs → at bs (position bs xs) ≡ xs
at_position nil = refl
at_position (more {b} {x} {bs} {xs} h w) =
    let low = position_below w in
    rw (digits_div x low, digits_mod x low, at_position w)

pub at_within : (bs : List ℕ) (p : ℕ) → p < product bs → Within bs (at bs p)
at_within [] p h = nil
at_within (b ∷ bs) p h =
    let positive : 0 < product bs = compared 0 (product bs) (λ l. l) (λ g. absurd (empty (at_most_zero g))) in
    more ((div-lt_iff_lt-mul {k = product bs} {x = p} {y = b} positive).1 h) (at_within bs (p % product bs) (mod-lt p positive))
  where
    at_most_zero : product bs ≤ 0 → product bs ≡ 0
    at_most_zero g = omega arith

    empty : product bs ≡ 0 → ⊥
    empty e = let none : p < b * 0 = rw e at h in omega arith

pub position_at : (bs : List ℕ) (p : ℕ) → p < product bs → position bs (at bs p) ≡ p
position_at [] p h = omega arith
position_at (b ∷ bs) p h =
    let positive : 0 < product bs = compared 0 (product bs) (λ l. l) (λ g. absurd (empty (at_most_zero g))) in
    rw (position_at bs (p % product bs) (mod-lt p positive)) (div-add-mod' p (product bs))
  where
    at_most_zero : product bs ≤ 0 → product bs ≡ 0
    at_most_zero g = omega arith

    empty : product bs ≡ 0 → ⊥
    empty e = let none : p < b * 0 = rw e at h in omega arith

-- The first index that differs decides which of two positions is the lower.
pub earlier_below : {bs xs ys : List ℕ} → Within bs xs → Within bs ys → earlier xs ys ≡ true → position bs xs < position bs ys
earlier_below nil nil h = let z : ◌≡◌ {A = ℕ} 0 1 = cc in absurd (omega arith)
earlier_below (more {x = x} {bs = bs} {xs = xs} hx wx) (more {x = y} {xs = ys} hy wy) h =
    let rest = earlier_below wx wy in
    let low = position_below wx in
    either (ltb x y) (eqb x y && earlier xs ys) h
    (λ e. let less = ltb-true x y e in let gap : x + 1 ≤ y = omega arith in omega (arith, mul-le-mul_right (product bs) gap))
    (λ e. let both = (and_iff (eqb x y) (earlier xs ys)).0 e in
    let same : x ≡ y = eqb-true x y both.0 in
    let tail : position bs xs < position bs ys = rest both.1 in
    rw same (omega arith))

pub below_earlier : {bs xs ys : List ℕ} → Within bs xs → Within bs ys → position bs xs < position bs ys → earlier xs ys ≡ true
below_earlier nil nil h = absurd (omega arith)
below_earlier (more {x = x} {bs = bs} {xs = xs} hx wx) (more {x = y} {xs = ys} hy wy) h =
    let rest = below_earlier wx wy in
    let low = position_below wy in
    compared x y
    (λ l. rw (lt-ltb x y l))
    (λ g. compared y x
    (λ l. let gap : y + 1 ≤ x = omega arith in absurd (omega (arith, mul-le-mul_right (product bs) gap)))
    (λ g2. let same : x ≡ y = omega arith in
    let tail : position bs xs < position bs ys = after (ap (λ (z : ℕ). z * product bs) same) in
    rw (le-ltb x y g, eq-eqb x y same, rest tail)))
  where
    after : x * product bs ≡ y * product bs → position bs xs < position bs ys
    after e = omega arith
