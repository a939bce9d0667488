-- The word that the code makes of a sum: the number of four upper-case hex digits.
-- Assumes nothing.
use mathlib.Core.Path.{◌≡◌, sym, ◌∙◌}
use mathlib.Core.List.{[], ◌∷◌}
use Prim.Native.Nat.{ℕ, ◌+◌, ◌*◌, ◌/◌, ◌%◌, ◌^◌, ◌≤◌, ◌<◌}
use native.Mathlib.Omega.{arith}
use lib.ListN.{replicate}
use borrow.Author.Tests.{le-leb, lt-leb}
use Rattle.cells.specs.Cells.{cut, number}
use Rattle.part.proofs.Facts.{compared}
use Rattle.jedec.specs.Characters.{hex_digit, digits_of, four_hex}
use Rattle.jedec_lines.proofs.Words.{Bytes, placed, number_placed, cut_number}

-- Each digit is the one meant, and four of them are the bytes of one word.
pub hex_low : (x : ℕ) → x ≤ 9 → 48 + x ≡ hex_digit x
hex_low x h = rw (le-leb x 9 h)

pub hex_high : (x : ℕ) → 9 < x → 55 + x ≡ hex_digit x
hex_high x h = rw (lt-leb x 9 h)

hex_small : (x : ℕ) → x < 16 → hex_digit x < 128
hex_small x h = by_cases_le (λ l. rw (le-leb x 9 l) (omega arith)) (λ g. rw (lt-leb x 9 g) (omega arith))
  where
    by_cases_le : (x ≤ 9 → hex_digit x < 128) → (9 < x → hex_digit x < 128) → hex_digit x < 128
    by_cases_le p q = compared 9 x q p

hex_bytes : (x : ℕ) → Bytes (four_hex x)
unfolding digits_of
hex_bytes x =
    let digit : (y : ℕ) → y < 16 → hex_digit y < 2 ^ 8 = λ y h. omega (arith, hex_small y h) in (
      digit (x / 16 / 16 / 16 % 16) (omega arith),
      (digit (x / 16 / 16 % 16) (omega arith), (digit (x / 16 % 16) (omega arith), (digit (x % 16) (omega arith), tt))),
    )

four_placed : (a b c d : ℕ) → a + b * 0x100 + c * 0x10000 + d * 0x1000000 ≡ placed (a ∷ b ∷ c ∷ d ∷ [])
four_placed a b c d = omega arith

pub four_hex_of : (x a b c d : ℕ) → x < 2 ^ 16 → a ≡ hex_digit (x / 4096) → b ≡ hex_digit (x / 256 % 16)
    → c ≡ hex_digit (x / 16 % 16) → d ≡ hex_digit (x % 16) → a + b * 0x100 + c * 0x10000 + d * 0x1000000 ≡ number (four_hex x)
unfolding digits_of
four_hex_of x a b c d h ea eb ec ed =
    let first : x / 4096 ≡ x / 16 / 16 / 16 % 16 = omega arith in
    let second : x / 256 % 16 ≡ x / 16 / 16 % 16 = omega arith in
    rw (ea, eb, ec, ed, first, second)
    (four_placed (hex_digit (x / 16 / 16 / 16 % 16)) (hex_digit (x / 16 / 16 % 16)) (hex_digit (x / 16 % 16)) (hex_digit (x % 16))
    ∙ sym (number_placed (four_hex x) (hex_bytes x)))

pub hex_cut : (x : ℕ) → cut (replicate 4 8) (number (four_hex x)) ≡ four_hex x
unfolding digits_of
hex_cut x = cut_number (four_hex x) (hex_bytes x)
