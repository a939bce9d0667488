-- `sum_of` meets its contract. The invariant, said of what is left: the sums so far and the bytes still to come.
-- Assumes nothing.
use Rattle.std.proofs.Common.{◌≡◌, sym, ap, ◌∙◌, ℕ, ◌+◌, ◌*◌, ◌/◌, ◌%◌, ◌^◌, ◌<◌, ◌≤◌, List, [], length, get_or, drop, add-one, arith, drop_of_length-le, drop-cons, w8, w16, Fits, rules}
use native.Mathlib.Nat.{add-mul-mod_self_right}
use Rattle.std.specs.Int.{from_le_bytes}
use Rattle.std.specs.Simd.{first_chunks}
use Rattle.image.specs.Image.{byte_sum, sum16}
use Rattle.image.proofs.Chunks.{chunk_byte}
use Rattle.image.proofs.Counts.{SoFar}
use Rattle.image.proofs.bytes.sum_of.Goals as goal

start : (bytes : List ℕ) → SoFar 0 0 bytes (sum16 bytes)
unfolding sum16
start bytes = omega arith

first : (bytes : List ℕ) (i : ℕ) → i < length bytes → byte_sum (drop i bytes) ≡ get_or bytes i 0 + byte_sum (drop (i + 1) bytes)
unfolding byte_sum
first bytes i h = rw (drop-cons bytes i 0 h, add-one)

-- A pair added, and its second byte.
step : (pairs seconds a b rest : ℕ) → a < 256
    → ((pairs + (a + b * 256)) % 65536 + (seconds + (a + b * 256) / 256) % 65536 * 65281 + rest) % 65536
    ≡ (pairs + seconds * 65281 + (a + (b + rest))) % 65536
step pairs seconds a b rest h =
    let p = (pairs + (a + b * 256)) % 65536 in
    let s = (seconds + (a + b * 256) / 256) % 65536 in
    let j = (pairs + (a + b * 256)) / 65536 in
    let k = (seconds + (a + b * 256) / 256) / 65536 in
    let second : (a + b * 256) / 256 ≡ b = omega arith in
    let left : p + j * 65536 ≡ pairs + (a + b * 256) = omega arith in
    let right : s + k * 65536 ≡ seconds + (a + b * 256) / 256 = omega arith in
    let same : p + s * 65281 + rest + (j + k * 65281) * 65536 ≡ pairs + seconds * 65281 + (a + (b + rest)) + b * 65536 = omega arith in
    sym (add-mul-mod_self_right (p + s * 65281 + rest) (j + k * 65281) 65536)
    ∙ ap (λ (x : ℕ). x % 65536) same
    ∙ add-mul-mod_self_right (pairs + seconds * 65281 + (a + (b + rest))) b 65536

module _ (bytes : List ℕ) (whole : List (List ℕ)) (small : (i : ℕ) → Fits w8 (get_or bytes i 0))
    (front : whole ≡ first_chunks 2 (length bytes / 2) bytes) (long : length whole ≡ length bytes / 2) where
  next_two : (pairs seconds k pair all : ℕ) → k < length whole → pair ≡ from_le_bytes w16 (get_or whole k [])
      → SoFar pairs seconds (drop (k * 2) bytes) all
      → SoFar ((pairs + pair) % 65536) ((seconds + pair / 256) % 65536) (drop ((k + 1) * 2) bytes) all
  next_two pairs seconds k pair all h e f =
      let i = k * 2 in
      let a = get_or bytes i 0 in
      let b = get_or bytes (i + 1) 0 in
      let zero : i + 0 ≡ i = omega arith in
      let read : pair ≡ a + b * 256 =
      e ∙ rw (
        chunk_byte 2 (length bytes / 2) bytes whole k 0 front long h (omega arith),
        chunk_byte 2 (length bytes / 2) bytes whole k 1 front long h (omega arith),
        zero,
      ) in
      let both : byte_sum (drop i bytes) ≡ a + (b + byte_sum (drop (i + 1 + 1) bytes)) =
      first bytes i (omega arith) ∙ rw (first bytes (i + 1) (omega arith)) in
      let two : i + 1 + 1 ≡ (k + 1) * 2 = omega arith in
      rw read (step pairs seconds a b (byte_sum (drop ((k + 1) * 2) bytes)) (small i).fits ∙ (rw (both, two) at f))

next_one : (last : List ℕ) (pairs seconds k all : ℕ) → k < length last → SoFar pairs seconds (drop k last) all
    → SoFar ((pairs + get_or last k 0) % 65536) seconds (drop (k + 1) last) all
next_one last pairs seconds k all h f =
    let b = get_or last k 0 in
    let rest = byte_sum (drop (k + 1) last) in
    let now : (pairs + seconds * 65281 + (b + rest)) % 65536 ≡ all = rw (first last k h) at f in
    let same : ((pairs + b) % 65536 + seconds * 65281 + rest) % 65536 ≡ (pairs + seconds * 65281 + (b + rest)) % 65536 = omega arith in
    same ∙ now

end : (last : List ℕ) (pairs seconds k all r : ℕ) → length last ≤ k → SoFar pairs seconds (drop k last) all
    → r ≡ (pairs + seconds * 65281) % 2 ^ 16 → r ≡ all
unfolding byte_sum
end last pairs seconds k all r h f g =
    let here : (pairs + seconds * 65281 + 0) % 65536 ≡ all = rw (drop_of_length-le last h) at f in omega arith

pub loop-two-init : goal.loop-two-init
loop-two-init c = search (rules, start)

pub loop-two-preserved : goal.loop-two-preserved
loop-two-preserved c = search (rules, next_two, c.type_inv.bytes)

pub loop-odd-preserved : goal.loop-odd-preserved
loop-odd-preserved c = search (rules, next_one)

pub returns : goal.returns
returns c = search (rules, end)
