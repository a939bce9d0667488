-- Laws of counting: the ones of bytes taken as one word, and the fuses at 1 and at 0 of an image.
--   ones_join       the ones of the first k bytes, as one word, and of the rest
--   ones_in_le       at most eight a byte
--   zeros_and_ones  the fuses at 0 and the ones of an image are all its fuses
use Rattle.std.proofs.Common.{◌≡◌, ℕ, zero, suc, ◌+◌, ◌*◌, ◌/◌, ◌%◌, ◌^◌, ◌<◌, ◌≤◌, List, [], ◌∷◌, length, get_or, drop, drop-cons, mod-eq_of_lt, replicate, sym, refl, ap, ◌∙◌, ap₂, le_of_suc-le-suc, not-suc-le-zero, add-zero, add_assoc, mod-lt, zero-add, div-one, add-one, arith, pow_pos, shr-shr}
use native.Mathlib.Nat.{div-eq_of_lt}
use lib.Count.{ones, ones_in as onesWithin, ones_step, ones_cat, ones-le}
use Rattle.cells.specs.Cells.{join}
use Rattle.part.proofs.Sums.{sum, sum_same, sum_add}
use Rattle.image.specs.Bits.{bit_of, bit_at, ones_in}
use Rattle.image.specs.Image.{byte_sum, state, zeros_below}
use Rattle.image.proofs.Bits.{bit_low}

none : ones 0 ≡ 0
unfolding ones onesWithin
none = refl

pub ones_join : (k : ℕ) (cells : List ℕ) → k ≤ length cells → ones (join (replicate k 8) cells) + ones_in (drop k cells) ≡ ones_in cells
unfolding join ones_in
ones_join zero cells h = rw none (zero-add (ones_in cells))
ones_join (suc k) [] h = absurd (not-suc-le-zero h)
ones_join (suc k) (b ∷ cells) h =
    let ih : ones (join (replicate k 8) cells) + ones_in (drop k cells) ≡ ones_in cells = ones_join k cells (le_of_suc-le-suc h) in
    rw (ones_cat 8 (join (replicate k 8) cells) (b % 2 ^ 8) (mod-lt b (pow_pos 8))) (omega arith)

pub ones_in_le : (bytes : List ℕ) → ones_in bytes ≤ length bytes * 8
unfolding ones_in
ones_in_le [] = omega arith
ones_in_le (b ∷ bytes) = omega (arith, ones-le 8 (b % 2 ^ 8) (mod-lt b (pow_pos 8)), ones_in_le bytes)

-- The ones of a byte, and those of the bytes behind it.
pub ones_first : (bytes : List ℕ) (i : ℕ) → i < length bytes → get_or bytes i 0 < 2 ^ 8
    → ones (get_or bytes i 0) + ones_in (drop (i + 1) bytes) ≡ ones_in (drop i bytes)
unfolding ones_in
ones_first bytes i h small = rw (drop-cons bytes i 0 h, add-one, mod-eq_of_lt small)

ones_bits : (x w : ℕ) → ones x ≡ sum (bit_of x) w + ones (x / 2 ^ w)
unfolding sum
ones_bits x zero = rw (div-one x) (sym (zero-add (ones x)))
ones_bits x (suc w) =
    let next : x / 2 ^ w / 2 ≡ x / 2 ^ suc w = shr-shr x w 1 ∙ ap (λ (k : ℕ). x / 2 ^ k) (add-one w) in
    ones_bits x w ∙ rw (ones_step (x / 2 ^ w), next) (sym (add_assoc _ _ _))

byte_ones : (b : ℕ) → ones (b % 2 ^ 8) ≡ sum (bit_of b) 8
byte_ones b =
    let high : b % 2 ^ 8 / 2 ^ 8 ≡ 0 = div-eq_of_lt (mod-lt b (pow_pos 8)) in
    ones_bits (b % 2 ^ 8) 8 ∙ rw (high, none) (add-zero _ ∙ sum_same (bit_of (b % 2 ^ 8)) (bit_of b) 8 (λ i h. bit_low b 8 i h))

states_ones : (image : List ℕ) → sum (state image) (length image * 8) ≡ ones_in image
unfolding sum ones_in state bit_at
states_ones [] = refl
states_ones (b ∷ image) =
    let more : suc (length image) * 8 ≡ 8 + length image * 8 = omega arith in
    rw more
    (sum_add (state (b ∷ image)) 8 (length image * 8)
    ∙ ap₂ ◌+◌
    (sum_same (state (b ∷ image)) (bit_of b) 8
    (λ i h.
    let q : i / 8 ≡ 0 = omega arith in
    let r : i % 8 ≡ i = omega arith in
    rw (q, r))
    ∙ sym (byte_ones b))
    (sum_same (λ i. state (b ∷ image) (8 + i)) (state image) (length image * 8)
    (λ i h.
    let q : (8 + i) / 8 ≡ suc (i / 8) = omega arith in
    let r : (8 + i) % 8 ≡ i % 8 = omega arith in
    rw (q, r))
    ∙ states_ones image))

pub state_bit : (image : List ℕ) (fuse : ℕ) → state image fuse < 2
unfolding state bit_at
state_bit image fuse = omega arith

zeros_ones : (image : List ℕ) (n : ℕ) → zeros_below image n + sum (state image) n ≡ n
unfolding zeros_below sum
zeros_ones image zero = omega arith
zeros_ones image (suc n) = omega (arith, zeros_ones image n, state_bit image n)

pub zeros_and_ones : (image : List ℕ) → zeros_below image (length image * 8) + ones_in image ≡ length image * 8
zeros_and_ones image = rw (← states_ones image) (zeros_ones image (length image * 8))

-- What the sums so far and the bytes still to come give together.
abbrev pub SoFar : (pairs seconds : ℕ) (left : List ℕ) (all : ℕ) → Type 0
SoFar pairs seconds left all = (pairs + seconds * 65281 + byte_sum left) % 65536 ≡ all
