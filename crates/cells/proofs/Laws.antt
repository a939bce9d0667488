-- Laws of cutting and joining, for any list of widths:
--   cut_append, join_append     a list of widths in two parts
--   cut_low                     only the bits that the widths have count
--   cut_at, cut_length          a cell of what is cut
--   join_few                    the same, in bytes
--   join_small, join_cut        a joined number has no more bits than the widths; what was cut is joined again
--   cut_join                    joined cells are cut again, to their low bits
--   total_replicate, total_append, total_repeat, length_repeat   the bits and the number of cells
--   sets_append                 stores one after another
--   cut_sets                    cells stored part by part
--   word_at                     the bytes from an index on, joined, are a part of the number of all
--   piece                       cells cut from such a word are cut from the number of all
--   join_none                   no cells join to 0
--   join_eight                  eight bytes, each worth 256 times the one before it, joined
use mathlib.Core.Path.{◌≡◌, refl, sym, ◌∙◌, ap, ap₂, subst}
use mathlib.Core.List.{List, [], ◌∷◌, ◌++◌}
use Prim.Native.Nat.{ℕ, zero, suc, ◌+◌, ◌*◌, ◌-◌, ◌/◌, ◌%◌, ◌^◌, ◌≤◌, ◌<◌}
use native.Mathlib.Omega.{arith}
use native.Mathlib.Nat.{div-one, mod-one, add-zero, zero-add, add-suc, suc-add, add_comm, mod-mod, mod-lt, not-suc-le-zero}
use native.Mathlib.Nat.{le_of_suc-le-suc, add-mul, mul_assoc, mul_comm, zero-mul, suc-mul, add_assoc, mul-le-mul, lt_of_lt_of_le}
use native.Mathlib.Numerals.{one-add}
use lib.Pow.{pow_pos, pow_mono, pow-add, shr-shr, high, low, mod-pow-add, field, mod-mod-pow}
use lib.Arith.{digits_lt}
use mir.Syntax.{w8}
use mir.Val.{Fits}
use lib.ListN.{length, get_or, take, drop, replicate, length-append, length-replicate, replicate-append-replicate, set}
use lib.Seq.{sets, drop-drop, get_or-drop}
use Rattle.cells.specs.Cells.{cut, join, total, repeat, number}

pub cut_append : (ws vs : List ℕ) (x : ℕ) → cut (ws ++ vs) x ≡ cut ws x ++ cut vs (x / 2 ^ total ws)
unfolding cut total
cut_append [] vs x = ap (cut vs) (sym (div-one x))
cut_append (w ∷ ws) vs x =
    ap (λ (l : List ℕ). x % 2 ^ w ∷ l)
    (cut_append ws vs (x / 2 ^ w) ∙ ap (λ (y : ℕ). cut ws (x / 2 ^ w) ++ cut vs y) (shr-shr x w (total ws)))

pub cut_length : (ws : List ℕ) (x : ℕ) → length (cut ws x) ≡ length ws
unfolding cut
cut_length [] x = refl
cut_length (w ∷ ws) x = ap suc (cut_length ws (x / 2 ^ w))

-- The bits before a cell.
pub cut_at : (ws : List ℕ) (x k : ℕ) → k < length ws → get_or (cut ws x) k 0 ≡ x / 2 ^ total (take k ws) % 2 ^ get_or ws k 0
unfolding cut total
cut_at [] x k h = absurd (not-suc-le-zero h)
cut_at (w ∷ ws) x zero h = ap (λ (y : ℕ). y % 2 ^ w) (sym (div-one x))
cut_at (w ∷ ws) x (suc k) h =
    cut_at ws (x / 2 ^ w) k (le_of_suc-le-suc h) ∙ ap (λ (y : ℕ). y % 2 ^ get_or ws k 0) (shr-shr x w (total (take k ws)))

-- Only the low bits count, for any number of bits that is enough.
pub cut_low : (ws : List ℕ) (x more : ℕ) → cut ws (x % 2 ^ (more + total ws)) ≡ cut ws x
unfolding cut total
cut_low [] x more = refl
cut_low (w ∷ ws) x more =
    let e : more + (w + total ws) ≡ more + total ws + w = omega arith in
    rw e
    (ap₂ ◌∷◌ (mod-mod-pow x (more + total ws) w) (ap (cut ws) (field x (more + total ws) w) ∙ cut_low ws (x / 2 ^ w) more))

-- Two digits, where the high one is a sum.
pub regrouped : (a b c t w : ℕ) → (a + b * 2 ^ t) * 2 ^ w + c ≡ a * 2 ^ w + c + b * 2 ^ (w + t)
regrouped a b c t w =
    let e : (a + b * 2 ^ t) * 2 ^ w ≡ a * 2 ^ w + b * (2 ^ t * 2 ^ w) =
    add-mul a (b * 2 ^ t) (2 ^ w) ∙ ap (λ (y : ℕ). a * 2 ^ w + y) (mul_assoc b (2 ^ t) (2 ^ w)) in
    let f : b * (2 ^ t * 2 ^ w) ≡ b * 2 ^ (w + t) = ap (λ (y : ℕ). b * y) (mul_comm (2 ^ t) (2 ^ w) ∙ sym (pow-add 2 w t)) in
    omega arith

pub join_append : (ws vs cells : List ℕ) → join (ws ++ vs) cells ≡ join ws cells + join vs (drop (length ws) cells) * 2 ^ total ws
unfolding join total
join_append [] vs cells = omega arith
join_append (w ∷ ws) vs cells =
    let rest = drop 1 cells in
    let ih : join (ws ++ vs) rest ≡ join ws rest + join vs (drop (length ws) rest) * 2 ^ total ws = join_append ws vs rest in
    let past : drop (length ws) rest ≡ drop (1 + length ws) cells = drop-drop (length ws) 1 cells in
    rw (ih, past, one-add) (regrouped _ _ _ _ _)

pub join_small : (ws cells : List ℕ) → join ws cells < 2 ^ total ws
unfolding join total
join_small [] cells = omega arith
join_small (w ∷ ws) cells =
    rw (pow-add 2 w (total ws), mul_comm (2 ^ w) (2 ^ total ws))
    (digits_lt (join_small ws (drop 1 cells)) (mod-lt (get_or cells 0 0) (pow_pos w)))

pub join_cut : (ws : List ℕ) (x : ℕ) → join ws (cut ws x) ≡ x % 2 ^ total ws
unfolding join cut total
join_cut [] x = sym (mod-one x)
join_cut (w ∷ ws) x =
    let e : w + total ws ≡ total ws + w = omega arith in
    rw (e, mod-pow-add x (total ws) w, join_cut ws (x / 2 ^ w), mod-mod)

pub cut_join : (ws cells : List ℕ) (k : ℕ) → k < length ws → get_or (cut ws (join ws cells)) k 0 ≡ get_or cells k 0 % 2 ^ get_or ws k 0
unfolding join cut
cut_join [] cells k h = absurd (not-suc-le-zero h)
cut_join (w ∷ ws) cells zero h = low (join ws (drop 1 cells)) w (mod-lt (get_or cells 0 0) (pow_pos w))
cut_join (w ∷ ws) cells (suc k) h =
    rw (high (join ws (drop 1 cells)) w (mod-lt (get_or cells 0 0) (pow_pos w)))
    (cut_join ws (drop 1 cells) k (le_of_suc-le-suc h)
    ∙ ap (λ (y : ℕ). y % 2 ^ get_or ws k 0) (get_or-drop 1 cells k 0 ∙ ap (λ (i : ℕ). get_or cells i 0) (one-add k)))

pub total_replicate : (k w : ℕ) → total (replicate k w) ≡ k * w
unfolding total
total_replicate zero w = sym (zero-mul w)
total_replicate (suc k) w = ap (λ (x : ℕ). w + x) (total_replicate k w) ∙ add_comm w (k * w) ∙ sym (suc-mul k w)

pub total_append : (ws vs : List ℕ) → total (ws ++ vs) ≡ total ws + total vs
unfolding total
total_append [] vs = sym (zero-add (total vs))
total_append (w ∷ ws) vs = ap (λ (x : ℕ). w + x) (total_append ws vs) ∙ sym (add_assoc w (total ws) (total vs))

pub total_repeat : (k : ℕ) (ws : List ℕ) → total (repeat k ws) ≡ k * total ws
unfolding total repeat
total_repeat zero ws = sym (zero-mul (total ws))
total_repeat (suc k) ws =
    total_append ws (repeat k ws) ∙ rw (total_repeat k ws) (add_comm (total ws) (k * total ws) ∙ sym (suc-mul k (total ws)))

pub length_repeat : (k : ℕ) (ws : List ℕ) → length (repeat k ws) ≡ k * length ws
unfolding repeat
length_repeat zero ws = sym (zero-mul (length ws))
length_repeat (suc k) ws =
    length-append ws (repeat k ws) ∙ rw (length_repeat k ws) (add_comm (length ws) (k * length ws) ∙ sym (suc-mul k (length ws)))

-- At most so many cells of at most 8 bits have at most so many bytes.
pub join_few : (k width most : ℕ) (cells : List ℕ) → k ≤ most → width ≤ 8 → join (replicate k width) cells < 2 ^ (most * 8)
join_few k width most cells hk hw =
    lt_of_lt_of_le (join_small (replicate k width) cells)
    (pow_mono {i = total (replicate k width)} {j = most * 8}
    (rw (total_replicate k width) (mul-le-mul {n₁ = k} {m₁ = width} {n₂ = most} {m₂ = 8} hk hw)))

pub sets_append : {A : Type 0} (l : List A) (i : ℕ) (vs us : List A) → sets l i (vs ++ us) ≡ sets (sets l i vs) (i + length vs) us
sets_append l i [] us = ap (λ (k : ℕ). sets l k us) (sym (add-zero i))
sets_append l i (v ∷ vs) us =
    sets_append (set l i v) (suc i) vs us
    ∙ ap (λ (k : ℕ). sets (sets (set l i v) (suc i) vs) k us) (suc-add i (length vs) ∙ sym (add-suc i (length vs)))

pub cut_sets : (out ws vs : List ℕ) (at x n t : ℕ) → length ws ≡ n → total ws ≡ t
    → sets (sets out at (cut ws x)) (at + n) (cut vs (x / 2 ^ t)) ≡ sets out at (cut (ws ++ vs) x)
cut_sets out ws vs at x n t e f =
    rw (cut_append ws vs x, sets_append out at (cut ws x) (cut vs (x / 2 ^ total ws)), cut_length ws x, e, f)

replicate_add : (n m a : ℕ) → replicate (n + m) a ≡ replicate n a ++ replicate m a
replicate_add n m a = sym (replicate-append-replicate n m a)

pub word_at : (bytes : List ℕ) (p k : ℕ) → p + k ≤ length bytes
    → join (replicate k 8) (drop p bytes) ≡ number bytes / 2 ^ (p * 8) % 2 ^ (k * 8)
unfolding number
word_at bytes p k h =
    let rest = length bytes - (p + k) in
    let whole : length bytes ≡ p + (k + rest) = omega arith in
    let a = join (replicate p 8) bytes in
    let b = join (replicate k 8) (drop p bytes) in
    let c = join (replicate rest 8) (drop k (drop p bytes)) in
    let inner : join (replicate (k + rest) 8) (drop p bytes) ≡ c * 2 ^ (k * 8) + b =
    ap (λ (ws : List ℕ). join ws (drop p bytes)) (replicate_add k rest 8) ∙ join_append (replicate k 8) (replicate rest 8) (drop p bytes)
    ∙ rw (length-replicate {A = ℕ} k 8, total_replicate k 8) (add_comm _ _) in
    let outer : join (replicate (length bytes) 8) bytes ≡ (c * 2 ^ (k * 8) + b) * 2 ^ (p * 8) + a =
    ap (λ (n : ℕ). join (replicate n 8) bytes) whole ∙ ap (λ (ws : List ℕ). join ws bytes) (replicate_add p (k + rest) 8)
    ∙ join_append (replicate p 8) (replicate (k + rest) 8) bytes
    ∙ rw (length-replicate {A = ℕ} p 8, total_replicate p 8, inner) (add_comm _ _) in
    let small-a : a < 2 ^ (p * 8) = subst (λ (t : ℕ). a < 2 ^ t) (total_replicate p 8) (join_small (replicate p 8) bytes) in
    let small_b : b < 2 ^ (k * 8) = subst (λ (t : ℕ). b < 2 ^ t) (total_replicate k 8) (join_small (replicate k 8) (drop p bytes)) in
    sym (rw outer (ap (λ (y : ℕ). y % 2 ^ (k * 8)) (high (c * 2 ^ (k * 8) + b) (p * 8) small-a) ∙ low c (k * 8) small_b))

pub piece : (bytes ws : List ℕ) (p s k : ℕ) → p + k ≤ length bytes → s + total ws ≤ k * 8
    → cut ws (join (replicate k 8) (drop p bytes) / 2 ^ s) ≡ cut ws (number bytes / 2 ^ (p * 8 + s))
piece bytes ws p s k h g =
    let j = k * 8 - s in
    let e : k * 8 ≡ j + s = omega arith in
    let f : j ≡ j - total ws + total ws = omega arith in
    let x = number bytes / 2 ^ (p * 8) in
    rw (word_at bytes p k h)
    (ap (λ (t : ℕ). cut ws (x % 2 ^ t / 2 ^ s)) e
    ∙ ap (cut ws) (field x j s)
    ∙ ap (λ (t : ℕ). cut ws (x / 2 ^ s % 2 ^ t)) f
    ∙ cut_low ws (x / 2 ^ s) (j - total ws)
    ∙ ap (cut ws) (shr-shr (number bytes) (p * 8) s))

-- No cells.
pub join_none : (cells : List ℕ) (at : ℕ) → 0 ≡ join (replicate 0 8) (drop at cells)
unfolding join
join_none cells at = refl

-- Eight bytes as one word, the first lowest.
module _ (l : List ℕ) (at : ℕ) (bytes : (i : ℕ) → Fits w8 (get_or l i 0)) where
  one_byte : (cells : List ℕ) → get_or cells 0 0 < 2 ^ 8 → join (replicate 1 8) cells ≡ get_or cells 0 0
  unfolding join
  one_byte cells h = omega arith

  -- One more byte taken into a word of k bytes.
  taken : (k word : ℕ) → word ≡ join (replicate k 8) (drop at l)
      → word + get_or l (at + k) 0 * 2 ^ (k * 8) ≡ join (replicate (k + 1) 8) (drop at l)
  taken k word e =
      let there : get_or (drop k (drop at l)) 0 0 ≡ get_or l (at + k) 0 =
      get_or-drop k (drop at l) 0 0 ∙ get_or-drop at l (k + 0) 0 ∙ ap (λ (i : ℕ). get_or l i 0) (omega arith) in
      rw e
      (sym (ap (λ (ws : List ℕ). join ws (drop at l)) (sym (replicate-append-replicate k 1 8))
      ∙ join_append (replicate k 8) (replicate 1 8) (drop at l)
      ∙ rw (
        length-replicate {A = ℕ} k 8,
        total_replicate k 8,
        one_byte (drop k (drop at l)) (rw there (bytes (at + k)).fits),
        there,
      )))

  first : get_or l at 0 ≡ join (replicate 1 8) (drop at l)
  first =
      let there : get_or (drop at l) 0 0 ≡ get_or l at 0 = get_or-drop at l 0 0 ∙ ap (λ (i : ℕ). get_or l i 0) (add-zero at) in
      sym (one_byte (drop at l) (rw there (bytes at).fits) ∙ there)

  pub join_eight : (r : ℕ) → r ≡ get_or l at 0 + get_or l (at + 1) 0 * 2 ^ 8 + get_or l (at + 2) 0 * 2 ^ 16 + get_or l (at + 3) 0 * 2 ^ 24
      + get_or l (at + 4) 0 * 2 ^ 32 + get_or l (at + 5) 0 * 2 ^ 40 + get_or l (at + 6) 0 * 2 ^ 48 + get_or l (at + 7) 0 * 2 ^ 56
      → r ≡ join (replicate 8 8) (drop at l)
  join_eight r e = e ∙ taken 7 _ (taken 6 _ (taken 5 _ (taken 4 _ (taken 3 _ (taken 2 _ (taken 1 _ first))))))
