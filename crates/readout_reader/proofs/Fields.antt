-- Fields of a word, one in the low bits of each byte: a mask leaves them (`masked`), and put together they are the cells that
-- the bytes hold (`packed_cells`, `packed_at`).
use mathlib.Core.Path.{◌≡◌, refl, sym, ◌∙◌, ap, ap₂}
use mathlib.Core.Bool.{Bool, true, ◌&&◌, and-eq-true_iff}
use mathlib.Core.List.{List, [], ◌∷◌}
use Prim.Native.Nat.{ℕ, zero, suc, ◌+◌, ◌*◌, ◌-◌, ◌/◌, ◌%◌, ◌^◌, ◌≤◌, ◌<◌}
use native.Mathlib.Omega.{arith}
use native.Mathlib.Nat.{mod-lt, lt_of_lt_of_le, div-one}
use lib.Dec.{ltb}
use lib.ListN.{length, get_or, drop, replicate}
use lib.Pow.{pow_pos, pow_mono, ones_lt, split, high, low, mod-mod-pow}
use lib.Bits.{bit_and, and_block, and_mask, and_zero_r}
use borrow.Author.Tests.{ltb-true}
use Rattle.cells.specs.Cells.{cut, join, total, number}
use Rattle.cells.proofs.Laws.{piece, total_replicate}

-- The fields of these widths, each where it stands in a word.
unfoldable pub fields : List ℕ → ℕ → ℕ
fields [] x = 0
fields (w ∷ ws) x = fields ws (x / 2 ^ 8) * 2 ^ 8 + x % 2 ^ w

-- The mask that leaves only the fields.
unfoldable pub mask : List ℕ → ℕ
mask [] = 0
mask (w ∷ ws) = mask ws * 2 ^ 8 + (2 ^ w - 1)

-- The fields put together.
unfoldable pub packed : List ℕ → ℕ → ℕ
packed [] x = 0
packed (w ∷ ws) x = packed ws (x / 2 ^ 8) * 2 ^ w + x % 2 ^ w

-- A word without its lowest bytes.
abbrev pub past : ℕ → ℕ → ℕ
past x zero = x
past x (suc k) = past x k / 2 ^ 8

-- No field is wider than a byte.
unfoldable pub narrow : List ℕ → Bool
narrow [] = true
narrow (w ∷ ws) = ltb w 9 && narrow ws

first_narrow : (w : ℕ) (ws : List ℕ) → narrow (w ∷ ws) ≡ true → w ≤ 8
unfolding narrow
first_narrow w ws h = let l : w < 9 = ltb-true w 9 ((and-eq-true_iff (ltb w 9) (narrow ws)).0 h).0 in omega arith

others_narrow : (w : ℕ) (ws : List ℕ) → narrow (w ∷ ws) ≡ true → narrow ws ≡ true
unfolding narrow
others_narrow w ws h = ((and-eq-true_iff (ltb w 9) (narrow ws)).0 h).1

in_byte : (x w : ℕ) → w ≤ 8 → x % 2 ^ 8 % 2 ^ w ≡ x % 2 ^ w
in_byte x w h =
    let whole : 8 ≡ 8 - w + w = omega arith in
    ap (λ (j : ℕ). x % 2 ^ j % 2 ^ w) whole ∙ mod-mod-pow x (8 - w) w

pub masked : (ws : List ℕ) (x : ℕ) → narrow ws ≡ true → bit_and x (mask ws) ≡ fields ws x
unfolding fields mask
masked [] x h = and_zero_r x
masked (w ∷ ws) x h =
    let few = first_narrow w ws h in
    let small : 2 ^ w - 1 < 2 ^ 8 = lt_of_lt_of_le (ones_lt w) (pow_mono {i = w} {j = 8} few) in
    ap (λ (y : ℕ). bit_and y (mask ws * 2 ^ 8 + (2 ^ w - 1))) (sym (split x 8))
    ∙ and_block 8 (x / 2 ^ 8) (mask ws) (x % 2 ^ 8) (2 ^ w - 1) (mod-lt x (pow_pos 8)) small
    ∙ ap₂ (λ (y z : ℕ). y * 2 ^ 8 + z) (masked ws (x / 2 ^ 8) (others_narrow w ws h)) (and_mask (x % 2 ^ 8) w ∙ in_byte x w few)

pub packed_cells : (ws : List ℕ) (x : ℕ) → narrow ws ≡ true → packed ws x ≡ join ws (cut (replicate (length ws) 8) x)
unfolding packed join cut
packed_cells [] x h = refl
packed_cells (w ∷ ws) x h =
    ap₂ (λ (y z : ℕ). y * 2 ^ w + z) (packed_cells ws (x / 2 ^ 8) (others_narrow w ws h)) (sym (in_byte x w (first_narrow w ws h)))

-- Bytes taken as one word join to what the cells join to.
packed_join : (ws cells : List ℕ) → narrow ws ≡ true → packed ws (join (replicate (length ws) 8) cells) ≡ join ws cells
unfolding packed join
packed_join [] cells h = refl
packed_join (w ∷ ws) cells h =
    let more = join (replicate (length ws) 8) (drop 1 cells) in
    let byte = mod-lt (get_or cells 0 0) (pow_pos 8) in
    rw (high more 8 byte)
    (ap₂ (λ (y z : ℕ). y * 2 ^ w + z) (packed_join ws (drop 1 cells) (others_narrow w ws h))
    (sym (in_byte (more * 2 ^ 8 + get_or cells 0 0 % 2 ^ 8) w (first_narrow w ws h))
    ∙ rw (low more 8 byte) (in_byte (get_or cells 0 0) w (first_narrow w ws h))))

-- The same of a word of eight bytes that begins `skip` bytes before the cells.
pub packed_at : (ws readout : List ℕ) (at skip word x : ℕ) → narrow ws ≡ true → skip + length ws ≤ 8 → skip ≤ at
    → at + (8 - skip) ≤ length readout → word ≡ join (replicate 8 8) (drop (at - skip) readout)
    → x ≡ join ws (cut (replicate (length ws) 8) (word / 2 ^ (skip * 8))) → x ≡ join ws (drop at readout)
packed_at ws readout at skip word x h fit before within e f =
    let bytes : List ℕ = replicate (length ws) 8 in
    let all : total bytes ≡ length ws * 8 = total_replicate (length ws) 8 in
    let here : cut bytes (word / 2 ^ (skip * 8)) ≡ cut bytes (number readout / 2 ^ ((at - skip) * 8 + skip * 8)) =
    rw e (piece readout bytes (at - skip) (skip * 8) 8 (omega arith) (omega arith)) in
    let there : cut bytes (join bytes (drop at readout) / 2 ^ 0) ≡ cut bytes (number readout / 2 ^ (at * 8 + 0)) =
    piece readout bytes at 0 (length ws) (omega arith) (omega arith) in
    let same : (at - skip) * 8 + skip * 8 ≡ at * 8 + 0 = omega arith in
    f
    ∙ ap (join ws) (here ∙ ap (λ (j : ℕ). cut bytes (number readout / 2 ^ j)) same ∙ sym there)
    ∙ sym (packed_cells ws (join bytes (drop at readout) / 2 ^ 0) h)
    ∙ rw (div-one (join bytes (drop at readout))) (packed_join ws (drop at readout) h)
