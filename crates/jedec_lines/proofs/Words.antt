-- Some bytes as one word: the number of the bytes, and the bytes of a word stored one by one.
-- Assumes nothing.
use mathlib.Core.Path.{◌≡◌, refl, ◌∙◌, ap, ap₂}
use mathlib.Core.List.{List, [], ◌∷◌}
use Prim.Native.Nat.{ℕ, ◌+◌, ◌*◌, ◌%◌, ◌^◌, ◌≤◌, ◌<◌}
use native.Mathlib.Nat.{mod-lt, mod-eq_of_lt}
use lib.ListN.{length, take, replicate}
use lib.Pow.{pow_pos, high, low, shr-shr}
use lib.Seq.{sets}
use Rattle.std.proofs.lemmas.List.{take_all}
use native.Mathlib.Omega.{arith}
use Rattle.std.specs.Int.{to_le_bytes, w64}
use Rattle.cells.specs.Cells.{cut, join, total, number}
use Rattle.cells.proofs.Laws.{join_small}

-- Every number of a list is a byte.
abbrev pub Bytes : List ℕ → Type 0
Bytes [] = Unit {0}
Bytes (b ∷ bytes) = (b < 2 ^ 8) × Bytes bytes

-- The number of some bytes, written out; cut into bytes it gives them.
abbrev pub placed : List ℕ → ℕ
placed [] = 0
placed (b ∷ bytes) = placed bytes * 2 ^ 8 + b

pub number_placed : (bytes : List ℕ) → Bytes bytes → number bytes ≡ placed bytes
unfolding number join
number_placed [] h = refl
number_placed (b ∷ bytes) h = ap₂ (λ (x y : ℕ). x * 2 ^ 8 + y) (number_placed bytes h.1) (mod-eq_of_lt h.0)

pub cut_number : (bytes : List ℕ) → Bytes bytes → cut (replicate (length bytes) 8) (number bytes) ≡ bytes
unfolding number join cut
cut_number [] h = refl
cut_number (b ∷ bytes) h =
    let y = join (replicate (length bytes) 8) bytes in
    let small : b % 2 ^ 8 < 2 ^ 8 = mod-lt b (pow_pos 8) in
    ap₂ ◌∷◌ (low y 8 small ∙ mod-eq_of_lt h.0) (ap (cut (replicate (length bytes) 8)) (high y 8 small) ∙ cut_number bytes h.1)

-- The number of some bytes has no more bits than they have.
pub number_small : (bytes : List ℕ) → number bytes < 2 ^ total (replicate (length bytes) 8)
unfolding number
number_small bytes = join_small (replicate (length bytes) 8) bytes

-- The bytes of a word, lowest first, are the word cut into bytes.
word_cut : (word : ℕ) → to_le_bytes w64 word ≡ cut (replicate 8 8) word
unfolding cut
word_cut word =
    rw (shr-shr word 8 8, shr-shr word 16 8, shr-shr word 24 8, shr-shr word 32 8, shr-shr word 40 8, shr-shr word 48 8)

pub word_stored : (out now bytes : List ℕ) (at k word : ℕ) → now ≡ sets out at (take k bytes) → bytes ≡ to_le_bytes w64 word → 8 ≤ k
    → now ≡ sets out at (cut (replicate 8 8) word)
word_stored out now bytes at k word e f past =
    e ∙ ap (sets out at) (take_all k bytes (omega (arith, ap length f)) ∙ f ∙ word_cut word)
