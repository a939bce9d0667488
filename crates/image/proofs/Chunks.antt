-- The bytes of a list in chunks of a few: what a loop reads that takes a chunk at each turn.
-- Assumes nothing.
use Rattle.std.proofs.Common.{◌≡◌, ℕ, zero, suc, ◌+◌, ◌*◌, ◌<◌, List, [], length, get_or, take, drop, ap, ◌∙◌, le_of_suc-le-suc, not-suc-le-zero, arith, drop-drop}
use Rattle.std.proofs.lemmas.List.{get_or-take, get_or-drop}
use Rattle.std.specs.Simd.{first_chunks}

chunk_at : (n m : ℕ) (xs : List ℕ) (k : ℕ) → k < m → get_or (first_chunks n m xs) k [] ≡ take n (drop (k * n) xs)
chunk_at n zero xs k h = absurd (not-suc-le-zero h)
chunk_at n (suc m) xs zero h = let none : 0 * n ≡ 0 = omega arith in rw none
chunk_at n (suc m) xs (suc k) h =
    let there : n + k * n ≡ suc k * n = omega arith in
    chunk_at n m (drop n xs) k (le_of_suc-le-suc h) ∙ ap (take n) (drop-drop (k * n) n xs ∙ ap (λ (i : ℕ). drop i xs) there)

-- A byte of a chunk.
pub chunk_byte : (n m : ℕ) (xs : List ℕ) (whole : List (List ℕ)) (k i : ℕ) → whole ≡ first_chunks n m xs → length whole ≡ m
    → k < length whole → i < n → get_or (get_or whole k []) i 0 ≡ get_or xs (k * n + i) 0
chunk_byte n m xs whole k i e long h hi =
    ap (λ (cs : List (List ℕ)). get_or (get_or cs k []) i 0) e ∙ ap (λ (l : List ℕ). get_or l i 0) (chunk_at n m xs k (omega arith))
    ∙ get_or-take n (drop (k * n) xs) i 0 hi ∙ get_or-drop (k * n) xs i 0
