-- Cells joined to one number: a bit of a cell is a bit of the number, and the state of a fuse is a bit of its image's number.
-- Assumes nothing.
use Rattle.std.proofs.Common.{◌≡◌, ℕ, zero, suc, ◌+◌, ◌*◌, ◌/◌, ◌%◌, ◌^◌, ◌<◌, List, length, get_or, take, replicate, sym, refl, ap, ◌∙◌, subst, le_of_suc-le-suc, not-suc-le-zero, suc-mul, add_comm, zero-mul, arith}
use lib.ListN.{length-replicate}
use Rattle.cells.specs.Cells.{join, number, total}
use Rattle.cells.proofs.Laws.{cut_at, cut_join}
use Rattle.image.specs.Bits.{bit_of, bit_at}
use Rattle.image.specs.Image.{state}
use Rattle.image.proofs.Bits.{bit_low, bit_high}

-- An index of a list of widths: the width there, and the bits before it.
abbrev pub At : List ℕ → (index width before : ℕ) → Type 0
At ws index width before = (get_or ws index 0 ≡ width) × (total (take index ws) ≡ before)

pub at_replicate : (n a i : ℕ) → i < n → At (replicate n a) i a (i * a)
unfolding total
at_replicate zero a i h = absurd (not-suc-le-zero h)
at_replicate (suc n) a zero h = (refl, sym (zero-mul a))
at_replicate (suc n) a (suc i) h =
    let r = at_replicate n a i (le_of_suc-le-suc h) in
    (r.0, ap (λ (x : ℕ). a + x) r.1 ∙ add_comm a (i * a) ∙ sym (suc-mul i a))

-- A bit of a cell is a bit of the number that the cells join to.
pub joined_bit : (ws cells : List ℕ) (k w before b : ℕ) → k < length ws → At ws k w before → b < w
    → bit_of (join ws cells) (before + b) ≡ bit_of (get_or cells k 0) b
joined_bit ws cells k w before b h at hb =
    let x = join ws cells in
    let cell : x / 2 ^ before % 2 ^ w ≡ get_or cells k 0 % 2 ^ w = rw (at.0, at.1) at (sym (cut_at ws x k h) ∙ cut_join ws cells k h) in
    bit_high x before b ∙ sym (bit_low (x / 2 ^ before) w b hb) ∙ ap (λ (y : ℕ). bit_of y b) cell ∙ bit_low (get_or cells k 0) w b hb

-- The state of a fuse is a bit of the image's number.
pub number_bit : (image : List ℕ) (fuse : ℕ) → fuse < length image * 8 → bit_of (number image) fuse ≡ state image fuse
unfolding number state bit_at
number_bit image fuse h =
    let n = length image in
    let e : fuse / 8 * 8 + fuse % 8 ≡ fuse = omega arith in
    subst (λ (f : ℕ). bit_of (join (replicate n 8) image) f ≡ bit_of (get_or image (fuse / 8) 0) (fuse % 8)) e
    (joined_bit (replicate n 8) image (fuse / 8) 8 (fuse / 8 * 8) (fuse % 8) (rw (length-replicate {A = ℕ} n 8) (omega arith))
    (at_replicate n 8 (fuse / 8) (omega arith)) (omega arith))
