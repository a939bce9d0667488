-- A word of eight bytes: the lowest bits, a byte each, and what is left, which is the character 0 in bytes that are states.
-- Assumes nothing.
use Rattle.std.proofs.Common.{◌≡◌, ℕ, zero, suc, ◌+◌, ◌-◌, ◌*◌, ◌/◌, ◌%◌, ◌^◌, ◌<◌, List, ◌∷◌, get_or, drop, replicate, sym, refl, ap, ◌∙◌, ap₂, mod-lt, mod-eq_of_lt, suc-mul, suc-add, arith, pow_pos}
use native.Mathlib.Nat.{mod-one}
use lib.Bits.{bit_and, and_block, and_mask}
use lib.Pow.{high, low, mod-mod-pow, mod-pow-add}
use Rattle.cells.specs.Cells.{cut, join}
use Rattle.cells.proofs.Laws.{join_small, total_replicate}
use Rattle.jedec_runs.specs.Runs.{AllStates}

-- The lowest bits of so many bytes, a byte each.
unfoldable pub spread : ℕ → List ℕ → ℕ
spread k bytes = join (replicate k 8) (cut (replicate k 1) (join (replicate k 1) bytes))

module _ (k : ℕ) (bytes : List ℕ) where
  bits_half : join (replicate (suc k) 1) bytes / 2 ^ 1 ≡ join (replicate k 1) (drop 1 bytes)
  unfolding join
  bits_half = high (join (replicate k 1) (drop 1 bytes)) 1 (mod-lt (get_or bytes 0 0) (pow_pos 1))

  bits_first : join (replicate (suc k) 1) bytes % 2 ^ 1 ≡ get_or bytes 0 0 % 2 ^ 1
  unfolding join
  bits_first = low (join (replicate k 1) (drop 1 bytes)) 1 (mod-lt (get_or bytes 0 0) (pow_pos 1))

  pub bits_cut : cut (replicate (suc k) 1) (join (replicate (suc k) 1) bytes)
      ≡ (get_or bytes 0 0 % 2 ^ 1) ∷ cut (replicate k 1) (join (replicate k 1) (drop 1 bytes))
  unfolding cut
  bits_cut = ap₂ ◌∷◌ bits_first (ap (cut (replicate k 1)) bits_half)

  spread_suc : spread (suc k) bytes ≡ spread k (drop 1 bytes) * 2 ^ 8 + get_or bytes 0 0 % 2 ^ 1
  unfolding spread join
  spread_suc =
      let small : get_or bytes 0 0 % 2 ^ 1 % 2 ^ 8 ≡ get_or bytes 0 0 % 2 ^ 1 = mod-eq_of_lt (omega arith) in
      ap (join (replicate (suc k) 8)) bits_cut ∙ rw small

-- The word with 1 in each byte.
ones : ℕ → ℕ
ones zero = 0
ones (suc k) = ones k * 2 ^ 8 + 1

and_spread : (k : ℕ) (bytes : List ℕ) → bit_and (join (replicate k 8) bytes) (ones k) ≡ spread k bytes
unfolding join ones spread cut
and_spread zero bytes = refl
and_spread (suc k) bytes =
    let b = get_or bytes 0 0 in
    let first : bit_and (b % 2 ^ 8) 1 ≡ b % 2 ^ 1 = and_mask (b % 2 ^ 8) 1 ∙ mod-mod-pow b 7 1 in
    and_block 8 (join (replicate k 8) (drop 1 bytes)) (ones k) (b % 2 ^ 8) 1 (mod-lt b (pow_pos 8)) (omega arith)
    ∙ ap₂ (λ (x y : ℕ). x * 2 ^ 8 + y) (and_spread k (drop 1 bytes)) first
    ∙ sym (spread_suc k bytes)

-- Each byte without its lowest bit.
evens : ℕ → List ℕ → ℕ
evens zero bytes = 0
evens (suc k) bytes = evens k (drop 1 bytes) * 2 ^ 8 + get_or bytes 0 0 % 2 ^ 8 / 2 * 2

in_two : (k : ℕ) (bytes : List ℕ) → join (replicate k 8) bytes ≡ evens k bytes + spread k bytes
unfolding join evens spread cut
in_two zero bytes = refl
in_two (suc k) bytes =
    let b = get_or bytes 0 0 in
    let same : b % 2 ^ 8 % 2 ^ 1 ≡ b % 2 ^ 1 = mod-mod-pow b 7 1 in
    let ih : join (replicate k 8) (drop 1 bytes) ≡ evens k (drop 1 bytes) + spread k (drop 1 bytes) = in_two k (drop 1 bytes) in
    omega (arith, spread_suc k bytes)

module _ (word : ℕ) (bytes : List ℕ) (e : word ≡ join (replicate 8 8) bytes) where
  pub and_apart : bit_and word 0x0101010101010101 ≡ spread 8 bytes
  unfolding ones
  and_apart = rw e (and_spread 8 bytes)

  characters_of : word - bit_and word 0x0101010101010101 ≡ evens 8 bytes
  characters_of = rw and_apart (omega (arith, in_two 8 bytes))

evens_low : (k j : ℕ) (bytes : List ℕ) → evens (k + j) bytes % 2 ^ (k * 8) ≡ evens k bytes
unfolding evens
evens_low zero j bytes = mod-one _
evens_low (suc k) j bytes =
    let e : suc k * 8 ≡ k * 8 + 8 = suc-mul k 8 in
    let b = get_or bytes 0 0 in
    let small : b % 2 ^ 8 / 2 * 2 < 2 ^ 8 = omega arith in
    let x = evens (k + j) (drop 1 bytes) in
    rw (suc-add k j, e, mod-pow-add (x * 2 ^ 8 + b % 2 ^ 8 / 2 * 2) (k * 8) 8, high x 8 small, low x 8 small, evens_low k j (drop 1 bytes))

-- The word with the character 0 in each byte.
zeros : ℕ → ℕ
zeros zero = 0
zeros (suc k) = zeros k * 2 ^ 8 + 48

evens_zeros : (k : ℕ) (bytes : List ℕ) → evens k bytes ≡ zeros k → AllStates k bytes
unfolding evens zeros AllStates
evens_zeros zero bytes e = tt
evens_zeros (suc k) bytes e =
    let small : get_or bytes 0 0 % 2 ^ 8 / 2 * 2 < 2 ^ 8 = omega arith in
    let rest : evens k (drop 1 bytes) ≡ zeros k =
    sym (high (evens k (drop 1 bytes)) 8 small) ∙ ap (λ (x : ℕ). x / 2 ^ 8) e ∙ high (zeros k) 8 (omega arith) in
    let first : get_or bytes 0 0 % 2 ^ 8 / 2 * 2 ≡ 48 =
    sym (low (evens k (drop 1 bytes)) 8 small) ∙ ap (λ (x : ℕ). x % 2 ^ 8) e ∙ low (zeros k) 8 (omega arith) in
    (omega arith, evens_zeros k (drop 1 bytes) rest)

pub no_states : (bytes : List ℕ) → AllStates 0 bytes
unfolding AllStates
no_states bytes = tt

module _ (word : ℕ) (bytes : List ℕ) (e : word ≡ join (replicate 8 8) bytes) where
  -- What differs from the character 0, in a word of eight of these.
  abbrev others : ℕ
  others = (word - bit_and word 0x0101010101010101 + (2 ^ 64 - 0x3030303030303030)) % 2 ^ 64

  back : (others + 0x3030303030303030) % 2 ^ 64 ≡ word - bit_and word 0x0101010101010101
  back =
      let small : word < 2 ^ 64 = rw e (rw (total_replicate 8 8) at (join_small (replicate 8 8) bytes)) in
      omega arith

  -- Where a word of the characters differs from the character 0 in no byte, each byte is a state.
  pub eight_states : others ≡ 0 → AllStates 8 bytes
  unfolding zeros
  eight_states z = evens_zeros 8 bytes (sym (characters_of word bytes e) ∙ sym back ∙ rw z)

  first_states : (k j : ℕ) → k + j ≡ 8 → (others + 0x3030303030303030) % 2 ^ 64 % 2 ^ (k * 8) ≡ zeros k → AllStates k bytes
  first_states k j h f = evens_zeros k bytes (sym (evens_low k j bytes) ∙ rw (h, ← characters_of word bytes e, ← back) f)

  module _ (x : ℕ) where
    pub seven_states : x ≡ others % 2 ^ 56 → x ≡ 0 → AllStates 7 bytes
    unfolding zeros
    seven_states f g = first_states 7 1 refl (omega arith)

    pub six_states : x ≡ others % 2 ^ 48 → x ≡ 0 → AllStates 6 bytes
    unfolding zeros
    six_states f g = first_states 6 2 refl (omega arith)
