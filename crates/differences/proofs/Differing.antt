-- The fuses that differ, word by word: those of a word and those behind it, none where the words are the same, none behind the end.
-- Assumes nothing.
use mathlib.Core.Path.{◌≡◌, refl, sym, ◌∙◌, ap, ap₂, subst}
use mathlib.Core.Bool.{Bool, true, false, cond, ◌&&◌}
use mathlib.Core.List.{List, [], ◌∷◌, ◌++◌, append-nil}
use Prim.Native.Nat.{ℕ, zero, suc, ◌+◌, ◌*◌, ◌-◌, ◌/◌, ◌%◌, ◌^◌, ◌≤◌, ◌<◌}
use native.Mathlib.Omega.{arith}
use native.Mathlib.Nat.{add-zero, zero-add, suc-add, zero-div, zero-mul, zero-mod}
use lib.Bits.{bit_xor}
use lib.Dec.{eqb}
use lib.ListN.{length, get_or, drop, replicate, length-replicate, length-drop, drop_of_length-le, replicate-append-replicate}
use lib.Seq.{get_or-drop}
use borrow.Author.Tests.{eqb-true, eq-eqb}
use Rattle.cells.specs.Cells.{join, total}
use Rattle.cells.proofs.Laws.{join_append}
use Rattle.part.proofs.Facts.{compared, and_iff}
use Rattle.image.specs.Bits.{bit_of, bit_at}
use Rattle.image.specs.Image.{state}
use Rattle.image.proofs.Numbers.{at_replicate, joined_bit}
use Rattle.differences.specs.Differences.{differing}
use Rattle.differences.specs.Scan.{ones_from, HasStates, AllBelow, same_word, differing_from}
use Rattle.differences.proofs.Ones.{xor_ones}

-- A bit of an image behind its end is 0.
get_d_past : (l : List ℕ) (i d : ℕ) → length l ≤ i → get_or l i d ≡ d
get_d_past [] i d h = refl
get_d_past (x ∷ l) zero d h = absurd (omega arith)
get_d_past (x ∷ l) (suc i) d h = get_d_past l i d (omega arith)

past_end : (image : List ℕ) (fuse : ℕ) → length image * 8 ≤ fuse → state image fuse ≡ 0
unfolding state bit_at
past_end image fuse h =
    rw (get_d_past image (fuse / 8) 0 (omega arith)) (ap (λ (y : ℕ). y % 2) (zero-div (2 ^ (fuse % 8))))

module _ (old new : List ℕ) where
  -- The fuses of two stretches, one behind the other.
  split : (a from b : ℕ) → differing old new from (a + b) ≡ differing old new from a ++ differing old new (from + a) b
  unfolding differing
  split zero from b = ap₂ (differing old new) (sym (add-zero from)) (zero-add b)
  split (suc a) from b =
      let e : from + 1 + a ≡ from + suc a = omega arith in
      rw (suc-add a b)
      (go (eqb (state old from) (state new from)) _ _ _
      (split a (from + 1) b ∙ ap (λ (f : ℕ). differing old new (from + 1) a ++ differing old new f b) e))
    where
      go : (t : Bool) (x y z : List ℕ) → x ≡ y ++ z → cond t x (from ∷ x) ≡ cond t y (from ∷ y) ++ z
      go true x y z e = e
      go false x y z e = ap (λ (l : List ℕ). from ∷ l) e

  pub none_differ : (count from : ℕ) → ((j : ℕ) → j < count → state old (from + j) ≡ state new (from + j))
      → differing old new from count ≡ []
  unfolding differing
  none_differ zero from h = refl
  none_differ (suc count) from h =
      let first : state old from ≡ state new from = rw add-zero at (h 0 (omega arith)) in
      rw (eq-eqb _ _ first)
      (none_differ count (from + 1)
      (λ j l.
      let e : from + (1 + j) ≡ from + 1 + j = omega arith in
      rw e at (h (1 + j) (omega arith))))

  pub differ_few : (count from : ℕ) → length (differing old new from count) ≤ count
  unfolding differing
  differ_few zero from = omega arith
  differ_few (suc count) from =
      go (eqb (state old from) (state new from)) _ (differ_few count (from + 1))
    where
      go : (t : Bool) (l : List ℕ) → length l ≤ count → length (cond t l (from ∷ l)) ≤ suc count
      go true l h = omega arith
      go false l h = omega arith

  differ_below : (count from n : ℕ) → from + count ≤ n → AllBelow n (differing old new from count)
  unfolding differing
  differ_below zero from n h = tt
  differ_below (suc count) from n h =
      go (eqb (state old from) (state new from)) _ (differ_below count (from + 1) n (omega arith))
    where
      go : (t : Bool) (l : List ℕ) → AllBelow n l → AllBelow n (cond t l (from ∷ l))
      go true l a = a
      go false l a = (omega arith, a)

  module _ (same : length new ≡ length old) where
    past : (from count : ℕ) → length old * 8 ≤ from → differing old new from count ≡ []
    past from count h =
        none_differ count from (λ j l. past_end old (from + j) (omega arith) ∙ sym (past_end new (from + j) (omega arith)))

    -- What differs from a fuse on: in the next 64, and behind them.
    word_step : (from : ℕ) → from ≤ length old * 8
        → differing old new from (length old * 8 - from)
        ≡ differing old new from 64 ++ differing old new (from + 64) (length old * 8 - (from + 64))
    word_step from h =
        let n = length old * 8 in
        compared n (from + 64)
        (λ last.
        let r = n - from in
        let sum : 64 ≡ r + (64 - r) = omega arith in
        let over : n - (from + 64) ≡ 0 = omega arith in
        let first : differing old new from 64 ≡ differing old new from r =
        ap (differing old new from) sum ∙ split r from (64 - r)
        ∙ ap (λ (l : List ℕ). differing old new from r ++ l) (past (from + r) (64 - r) (omega arith)) ∙ append-nil _ in
        sym (ap₂ ◌++◌ first (ap (differing old new (from + 64)) over ∙ none_left (from + 64)) ∙ append-nil _))
        (λ more.
        let sum : n - from ≡ 64 + (n - (from + 64)) = omega arith in
        ap (differing old new from) sum ∙ split 64 from (n - (from + 64)))
      where
        none_left : (from : ℕ) → differing old new from 0 ≡ []
        none_left from = none_differ 0 from (λ j l. absurd (omega arith))

-- The eight bytes from an index on have the states of their fuses.
pub word_states : (image : List ℕ) (at : ℕ) → HasStates image (at * 8) (join (replicate 8 8) (drop at image))
unfolding state bit_at
word_states image at j h =
    let e : j / 8 * 8 + j % 8 ≡ j = omega arith in
    let q : (at * 8 + j) / 8 ≡ at + j / 8 = omega arith in
    let r : (at * 8 + j) % 8 ≡ j % 8 = omega arith in
    let x = join (replicate 8 8) (drop at image) in
    let bit : bit_of x (j / 8 * 8 + j % 8) ≡ bit_of (get_or (drop at image) (j / 8) 0) (j % 8) =
    joined_bit (replicate 8 8) (drop at image) (j / 8) 8 (j / 8 * 8) (j % 8) (rw (length-replicate {A = ℕ} 8 8) (omega arith))
    (at_replicate 8 8 (j / 8) (omega arith)) (omega arith) in
    ap (bit_of x) (sym e) ∙ bit ∙ ap (λ (y : ℕ). bit_of y (j % 8)) (get_or-drop at image (j / 8) 0)
    ∙ ap₂ (λ (u v : ℕ). bit_of (get_or image u 0) v) (sym q) (sym r)

all_first : (n : ℕ) (xs ys : List ℕ) → AllBelow n (xs ++ ys) → AllBelow n xs
all_first n [] ys h = tt
all_first n (x ∷ xs) ys h = (h.0, all_first n xs ys h.1)

module _ (old new : List ℕ) (same : length new ≡ length old) (at : ℕ) where
  next_word : at * 8 + 64 ≡ (at + 8) * 8
  next_word = omega arith

  from_word : at ≤ length old → differing_from old new at ≡ differing old new (at * 8) 64 ++ differing_from old new (at + 8)
  from_word h = rw next_word at (word_step old new same (at * 8) (omega arith))

  -- Where the words are the same nothing differs.
  pub same_passed : at ≤ length old → same_word old new at ≡ true → differing_from old new at ≡ differing_from old new (at + 8)
  same_passed h e =
      let word : join (replicate 8 8) (drop at old) ≡ join (replicate 8 8) (drop at new) = eqb-true _ _ e in
      from_word h
      ∙ ap (λ (l : List ℕ). l ++ differing_from old new (at + 8))
      (none_differ old new 64 (at * 8)
      (λ j l. sym (word_states old at j l) ∙ ap (λ (x : ℕ). x / 2 ^ j % 2) word ∙ word_states new at j l))

  -- The ones of the exclusive-or of the words differ, and what differs behind them.
  pub word_differs : (a b : ℕ) → at ≤ length old → a ≡ join (replicate 8 8) (drop at old) → b ≡ join (replicate 8 8) (drop at new)
      → differing_from old new at ≡ ones_from (at * 8) (bit_xor a b) 64 ++ differing_from old new (at + 8)
  word_differs a b h ea eb =
      let has : differing old new (at * 8) 64 ≡ ones_from (at * 8) (bit_xor a b) 64 =
      rw (ea, eb) (xor_ones 64 (at * 8) old new _ _ (word_states old at) (word_states new at)) in
      from_word h ∙ ap (λ (l : List ℕ). l ++ differing_from old new (at + 8)) has

  pub word_below : (a b : ℕ) → at ≤ length old → a ≡ join (replicate 8 8) (drop at old) → b ≡ join (replicate 8 8) (drop at new)
      → AllBelow (length old * 8) (ones_from (at * 8) (bit_xor a b) 64)
  word_below a b h ea eb =
      all_first (length old * 8) (ones_from (at * 8) (bit_xor a b) 64) (differing_from old new (at + 8))
      (subst (AllBelow (length old * 8)) (word_differs a b h ea eb)
      (differ_below old new (length old * 8 - at * 8) (at * 8) (length old * 8) (omega arith)))

-- Four words that are the same.
pub four_passed : (old new : List ℕ) (at : ℕ) (t : Bool) → length new ≡ length old → at + 32 ≤ length old
    → t ≡ ((same_word old new at && same_word old new (at + 8)) && (same_word old new (at + 16) && same_word old new (at + 24)))
    → t ≡ true → differing_from old new at ≡ differing_from old new (at + 32)
four_passed old new at t same h e g =
    let four = (and_iff _ _).0 (sym e ∙ g) in
    let low = (and_iff _ _).0 four.0 in
    let high = (and_iff _ _).0 four.1 in
    let two : at + 8 + 8 ≡ at + 16 = omega arith in
    let three : at + 16 + 8 ≡ at + 24 = omega arith in
    let all : at + 24 + 8 ≡ at + 32 = omega arith in
    same_passed old new same at (omega arith) low.0
    ∙ same_passed old new same (at + 8) (omega arith) low.1 ∙ ap (differing_from old new) two
    ∙ same_passed old new same (at + 16) (omega arith) high.0 ∙ ap (differing_from old new) three
    ∙ same_passed old new same (at + 24) (omega arith) high.1 ∙ ap (differing_from old new) all

-- The last bytes as a word: bytes that are not there count as 0.
join_none : (ws : List ℕ) → join ws [] ≡ 0
unfolding join
join_none [] = refl
join_none (w ∷ ws) = rw (join_none ws) (omega (arith, zero-mul (2 ^ w), zero-mod (2 ^ w)))

pub short_word : (bytes : List ℕ) (at left r : ℕ) → left ≡ length bytes - at → left < 8 → r ≡ join (replicate left 8) (drop at bytes)
    → r ≡ join (replicate 8 8) (drop at bytes)
short_word bytes at left r e h f =
    let eight : left + (8 - left) ≡ 8 = omega arith in
    let none : drop left (drop at bytes) ≡ [] =
    drop_of_length-le (drop at bytes) {i = left} (rw (length-drop at bytes) (omega arith)) in
    f
    ∙ sym (ap (λ (k : ℕ). join (replicate k 8) (drop at bytes)) (sym eight)
    ∙ ap (λ (ws : List ℕ). join ws (drop at bytes)) (sym (replicate-append-replicate left (8 - left) 8))
    ∙ join_append (replicate left 8) (replicate (8 - left) 8) (drop at bytes)
    ∙ rw (length-replicate {A = ℕ} left 8, none, join_none (replicate (8 - left) 8))
    (omega (arith, zero-mul (2 ^ total (replicate left 8)))))

-- A turn of the walk over bytes that are the same: 32 of them, and eight.
pub fours_on : (old new : List ℕ) (from at : ℕ) (t : Bool) → differing_from old new from ≡ differing_from old new at
    → length new ≡ length old → at + 32 ≤ length old
    → t ≡ ((same_word old new at && same_word old new (at + 8)) && (same_word old new (at + 16) && same_word old new (at + 24)))
    → t ≡ true → differing_from old new from ≡ differing_from old new (at + 32)
fours_on old new from at t e same h f g = e ∙ four_passed old new at t same h f g

pub eight_on : (old new : List ℕ) (from at a b : ℕ) → differing_from old new from ≡ differing_from old new at → length new ≡ length old
    → at + 8 ≤ length old → a ≡ join (replicate 8 8) (drop at old) → b ≡ join (replicate 8 8) (drop at new) → a ≡ b
    → differing_from old new from ≡ differing_from old new (at + 8)
eight_on old new from at a b e same h ea eb g =
    e ∙ same_passed old new same at (omega arith) (eq-eqb _ _ (sym ea ∙ g ∙ eb))

-- Behind the last byte nothing differs.
pub past_all : (old new : List ℕ) (at : ℕ) → length old ≤ at → differing_from old new at ≡ []
unfolding differing
past_all old new at h = let none : length old * 8 - at * 8 ≡ 0 = omega arith in rw none
