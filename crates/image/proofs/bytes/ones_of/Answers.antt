-- `ones_of` meets its contract. The invariant of both loops, said of what is left: the ones so far and those still to come.
-- Assumes nothing.
use Rattle.std.proofs.Common.{◌≡◌, ◌∙◌, ℕ, ◌+◌, ◌*◌, ◌/◌, ◌<◌, ◌≤◌, List, [], length, get_or, drop, replicate, add-zero, arith, length-drop, drop_of_length-le, drop-drop, w8, w64, Fits, rules}
use lib.Count.{ones as onesOf}
use Rattle.std.specs.Int.{from_le_bytes}
use Rattle.std.specs.Simd.{first_chunks}
use Rattle.cells.specs.Cells.{join}
use Rattle.cells.proofs.Laws.{join_eight}
use Rattle.image.specs.Bits.{ones_in}
use Rattle.image.proofs.Chunks.{chunk_byte}
use Rattle.image.proofs.Counts.{ones_join, ones_in_le, ones_first}
use Rattle.image.proofs.bytes.ones_of.Goals as goal

module _ (bytes : List ℕ) (whole : List (List ℕ)) (small : (i : ℕ) → Fits w8 (get_or bytes i 0))
    (front : whole ≡ first_chunks 8 (length bytes / 8) bytes) (long : length whole ≡ length bytes / 8) where
  -- Eight more bytes, as one word.
  next_eight : (ones word k : ℕ) → k < length whole → word ≡ from_le_bytes w64 (get_or whole k [])
      → ones + ones_in (drop (k * 8) bytes) ≡ ones_in bytes → ones + onesOf word + ones_in (drop ((k + 1) * 8) bytes) ≡ ones_in bytes
  next_eight ones word k h e f =
      let read : (i : ℕ) → i < 8 → get_or (get_or whole k []) i 0 ≡ get_or bytes (k * 8 + i) 0 =
      λ i hi. chunk_byte 8 (length bytes / 8) bytes whole k i front long h hi in
      let zero : k * 8 + 0 ≡ k * 8 = omega arith in
      let joined : word ≡ join (replicate 8 8) (drop (k * 8) bytes) =
      join_eight bytes (k * 8) small word
      (e ∙ rw (
        read 0 (omega arith),
        read 1 (omega arith),
        read 2 (omega arith),
        read 3 (omega arith),
        read 4 (omega arith),
        read 5 (omega arith),
        read 6 (omega arith),
        read 7 (omega arith),
        zero,
      )) in
      let more = ones_join 8 (drop (k * 8) bytes) (rw length-drop (omega arith)) in
      let next : (k + 1) * 8 ≡ k * 8 + 8 = omega arith in
      rw (joined, next, ← drop-drop 8 (k * 8) bytes) (omega arith)

  fits_eight : (ones word k : ℕ) → length bytes ≤ 65536 → k < length whole → word ≡ from_le_bytes w64 (get_or whole k [])
      → ones + ones_in (drop (k * 8) bytes) ≡ ones_in bytes → Fits w64 (ones + onesOf word)
  fits_eight ones word k l h e f = omega (arith, next_eight ones word k h e f, ones_in_le bytes)

-- One more byte.
next_one : (last : List ℕ) (ones k all : ℕ) → k < length last → Fits w8 (get_or last k 0) → ones + ones_in (drop k last) ≡ all
    → ones + onesOf (get_or last k 0) + ones_in (drop (k + 1) last) ≡ all
next_one last ones k all h small f = omega (arith, ones_first last k h small.fits)

fits_one : (bytes last : List ℕ) (ones k : ℕ) → length bytes ≤ 65536 → k < length last → Fits w8 (get_or last k 0)
    → ones + ones_in (drop k last) ≡ ones_in bytes → Fits w64 (ones + onesOf (get_or last k 0))
fits_one bytes last ones k l h small f = omega (arith, next_one last ones k (ones_in bytes) h small f, ones_in_le bytes)

end : (last : List ℕ) (ones k all : ℕ) → length last ≤ k → ones + ones_in (drop k last) ≡ all → ones ≡ all
unfolding ones_in
end last ones k all h f = rw (drop_of_length-le last h, add-zero) at f

pub overflow_add-ones : goal.overflow_add-ones
overflow_add-ones c = search (rules, fits_eight, c.type_inv.bytes)

pub loop-eight-preserved : goal.loop-eight-preserved
loop-eight-preserved c = search (rules, next_eight, c.type_inv.bytes)

pub overflow_add-ones-in-loop-byte : goal.overflow_add-ones-in-loop-byte
overflow_add-ones-in-loop-byte c = search (rules, fits_one)

pub loop-byte-preserved : goal.loop-byte-preserved
loop-byte-preserved c = search (rules, next_one)

pub returns : goal.returns
returns c = search (rules, end)
