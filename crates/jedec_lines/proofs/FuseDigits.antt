-- The word that the code makes of a fuse number, by products: the number of an L and seven digits.
-- Assumes nothing.
use mathlib.Core.Path.{◌≡◌, refl, sym, ◌∙◌, ap, ap₂}
use mathlib.Core.Bool.{Bool, true}
use mathlib.Core.List.{[], ◌∷◌}
use Prim.Native.Nat.{ℕ, ◌+◌, ◌*◌, ◌-◌, ◌/◌, ◌%◌, ◌^◌, ◌≤◌, ◌<◌}
use native.Mathlib.Omega.{arith}
use lib.Bits.{bit_and, and_block}
use lib.Dec.{eqb}
use lib.ListN.{replicate}
use lib.Pow.{high as high_part, low as low_part}
use borrow.Author.Tests.{eqb-true}
use Rattle.cells.specs.Cells.{cut, total, number}
use Rattle.part.proofs.Tables.{all_below, below_all}
use Rattle.jedec.specs.Characters.{letter_l, digits_of, seven_digits}
use Rattle.jedec_lines.proofs.Words.{Bytes, placed, number_placed, cut_number, number_small}

-- A number below a million in three numbers of two digits.
abbrev high_two : ℕ → ℕ
high_two x = x / 10000

abbrev middle_two : ℕ → ℕ
middle_two x = (x - x / 10000 * 10000) / 100

abbrev low_two : ℕ → ℕ
low_two x = x - x / 10000 * 10000 - (x - x / 10000 * 10000) / 100 * 100

-- Three such numbers as the code puts them into a word, two bytes apart.
abbrev in_places : (high middle low : ℕ) → ℕ
in_places high middle low = high * 0x10000 + middle * 0x100000000 + low * 0x1000000000000

-- The characters of an L and seven digits are bytes.
start_bytes : (fuse : ℕ) → Bytes (letter_l ∷ seven_digits fuse)
unfolding digits_of
start_bytes fuse =
    (omega arith, (omega arith, (omega arith, (omega arith, (omega arith, (omega arith, (omega arith, (omega arith, tt))))))))

-- Three numbers of two digits become six digits by one subtraction.
taken_apart : (a b c d e f : ℕ)
    → in_places (f * 10 + e) (d * 10 + c) (b * 10 + a) * 256 - in_places f d b * 2559 + 0x303030303030304C
    ≡ (((((((48 + a) * 256 + (48 + b)) * 256 + (48 + c)) * 256 + (48 + d)) * 256 + (48 + e)) * 256 + (48 + f)) * 256 + 48) * 256 + 76
taken_apart a b c d e f = omega arith

seven_placed : (a b c d e f g : ℕ) → g ≡ 0
    → (((((((48 + a) * 256 + (48 + b)) * 256 + (48 + c)) * 256 + (48 + d)) * 256 + (48 + e)) * 256 + (48 + f)) * 256 + 48) * 256 + 76
    ≡ placed (76 ∷ (48 + g) ∷ (48 + f) ∷ (48 + e) ∷ (48 + d) ∷ (48 + c) ∷ (48 + b) ∷ (48 + a) ∷ [])
seven_placed a b c d e f g h = rw h (omega arith)

-- The three numbers of two digits are those of the digits; the seventh digit is 0.
module _ (x : ℕ) (h : x < 1000000) where
  high_digits : high_two x ≡ x / 10 / 10 / 10 / 10 / 10 % 10 * 10 + x / 10 / 10 / 10 / 10 % 10
  high_digits = omega arith

  middle_digits : middle_two x ≡ x / 10 / 10 / 10 % 10 * 10 + x / 10 / 10 % 10
  middle_digits = omega arith

  low_digits : low_two x ≡ x / 10 % 10 * 10 + x % 10
  low_digits = omega arith

  no_more : x / 10 / 10 / 10 / 10 / 10 / 10 % 10 ≡ 0
  no_more = omega arith

divided : (x : ℕ) → x < 1000000
    → in_places (high_two x) (middle_two x) (low_two x) * 256
    - in_places (high_two x / 10) (middle_two x / 10) (low_two x / 10) * 2559 + 0x303030303030304C
    ≡ number (letter_l ∷ seven_digits x)
unfolding digits_of
divided x h =
    let a = x % 10 in
    let b = x / 10 % 10 in
    let c = x / 10 / 10 % 10 in
    let d = x / 10 / 10 / 10 % 10 in
    let e = x / 10 / 10 / 10 / 10 % 10 in
    let f = x / 10 / 10 / 10 / 10 / 10 % 10 in
    let tenth : (u v : ℕ) → v < 10 → (u * 10 + v) / 10 ≡ u = λ u v g. omega arith in
    rw (low_digits x h, middle_digits x h, high_digits x h, tenth b a (omega arith), tenth d c (omega arith), tenth f e (omega arith))
    (taken_apart a b c d e f ∙ seven_placed a b c d e f (x / 10 / 10 / 10 / 10 / 10 / 10 % 10) (no_more x h)
    ∙ sym (number_placed (letter_l ∷ seven_digits x) (start_bytes x)))

-- One product of all gives the tenth of each; the tenths are proved by a computed test.
tenth_right : ℕ → Bool
tenth_right i = eqb (bit_and (i * 103) 0x3C00) (i / 10 * 1024)

tenth_all : all_below tenth_right 100 ≡ true
unfolding tenth_right
tenth_all = refl

tenth_of : (x : ℕ) → x < 100 → bit_and (x * 103) 0x3C00 ≡ x / 10 * 1024
unfolding tenth_right
tenth_of x h = eqb-true _ _ (below_all tenth_right 100 tenth_all x h)

tenths : (h m l : ℕ) → h < 100 → m < 100 → l < 100
    → bit_and (in_places h m l * 103) 0x3C003C003C000000 / 2 ^ 10 ≡ in_places (h / 10) (m / 10) (l / 10)
tenths h m l lh lm ll =
    let apart : in_places h m l * 103 ≡ ((l * 103 * 2 ^ 16 + m * 103) * 2 ^ 16 + h * 103) * 2 ^ 16 + 0 = omega arith in
    let each : bit_and (in_places h m l * 103) 0x3C003C003C000000
    ≡ ((l / 10 * 1024 * 2 ^ 16 + m / 10 * 1024) * 2 ^ 16 + h / 10 * 1024) * 2 ^ 16 + 0 =
    ap (λ (y : ℕ). bit_and y 0x3C003C003C000000) apart
    ∙ and_block 16 ((l * 103 * 2 ^ 16 + m * 103) * 2 ^ 16 + h * 103) 0x3C003C003C00 0 0 (omega arith) (omega arith)
    ∙ ap (λ (y : ℕ). y * 2 ^ 16 + 0)
    (and_block 16 (l * 103 * 2 ^ 16 + m * 103) 0x3C003C00 (h * 103) 0x3C00 (omega arith) (omega arith)
    ∙ ap₂ (λ (y z : ℕ). y * 2 ^ 16 + z) (and_block 16 (l * 103) 0x3C00 (m * 103) 0x3C00 (omega arith) (omega arith)
    ∙ ap₂ (λ (y z : ℕ). y * 2 ^ 16 + z) (tenth_of l ll) (tenth_of m lm)) (tenth_of h lh)) in
    rw each (omega arith)

tens_of : (x : ℕ) → x < 1000000
    → bit_and (in_places (high_two x) (middle_two x) (low_two x) * 103) 0x3C003C003C000000 / 2 ^ 10
    ≡ in_places (high_two x / 10) (middle_two x / 10) (low_two x / 10)
tens_of x h =
    tenths (high_two x) (middle_two x) (low_two x) (omega arith) (omega arith) (omega arith)

-- With x = 10000 h + 100 m + l, the high halves of the code's products are h, m and l.
module _ (h m l : ℕ) (hs : h < 100) (ms : m < 100) (ls : l < 100) where
  first_part : ℕ
  first_part = 2704 * h + 42949700 * m + 429497 * l

  next_part : ℕ
  next_part = 270400 * h + 2704 * m + 42949700 * l

  scaled_is : (h * 10000 + m * 100 + l) * 429497 ≡ h * 2 ^ 32 + first_part
  unfolding first_part
  scaled_is = omega arith

  first_small : first_part < 2 ^ 32
  unfolding first_part
  first_small = omega arith

  next_is : first_part * 100 ≡ m * 2 ^ 32 + next_part
  unfolding first_part next_part
  next_is = omega arith

  next_small : next_part < 2 ^ 32
  unfolding next_part
  next_small = omega arith

  last_is : next_part * 100 ≡ l * 2 ^ 32 + (27040000 * h + 270400 * m + 2704 * l)
  unfolding next_part
  last_is = omega arith

  last_small : 27040000 * h + 270400 * m + 2704 * l < 2 ^ 32
  last_small = omega arith

  by_products : (scaled n next k last : ℕ) → scaled ≡ (h * 10000 + m * 100 + l) * 429497 → n ≡ scaled % 2 ^ 32 → next ≡ n * 100
      → k ≡ next % 2 ^ 32 → last ≡ k * 100 → (scaled / 2 ^ 32 ≡ h) × (next / 2 ^ 32 ≡ m) × (last / 2 ^ 32 ≡ l)
  by_products scaled n next k last e f g i j =
      let s : scaled ≡ h * 2 ^ 32 + first_part = e ∙ scaled_is in
      let n-is : n ≡ first_part = f ∙ ap (λ (y : ℕ). y % 2 ^ 32) s ∙ low_part h 32 first_small in
      let t : next ≡ m * 2 ^ 32 + next_part = g ∙ ap (λ (y : ℕ). y * 100) n-is ∙ next_is in
      let k-is : k ≡ next_part = i ∙ ap (λ (y : ℕ). y % 2 ^ 32) t ∙ low_part m 32 next_small in
      let u : last ≡ l * 2 ^ 32 + (27040000 * h + 270400 * m + 2704 * l) = j ∙ ap (λ (y : ℕ). y * 100) k-is ∙ last_is in (
        ap (λ (y : ℕ). y / 2 ^ 32) s ∙ high_part h 32 first_small,
        ap (λ (y : ℕ). y / 2 ^ 32) t ∙ high_part m 32 next_small,
        ap (λ (y : ℕ). y / 2 ^ 32) u ∙ high_part l 32 last_small,
      )

module _ (x : ℕ) (less : x < 1000000) where
  in_parts : x ≡ high_two x * 10000 + middle_two x * 100 + low_two x
  in_parts = omega arith

  high_two_lem : high_two x < 100
  high_two_lem = omega arith

  middle_two_lem : middle_two x < 100
  middle_two_lem = omega arith

  low_two_lem : low_two x < 100
  low_two_lem = omega arith

line_start_of : (x : ℕ) → x < 1000000
    → in_places (high_two x) (middle_two x) (low_two x) * 256
    - bit_and (in_places (high_two x) (middle_two x) (low_two x) * 103) 0x3C003C003C000000 / 2 ^ 10 * 2559 + 0x303030303030304C
    ≡ number (letter_l ∷ seven_digits x)
line_start_of x h = rw (tens_of x h) (divided x h)

parts_small : (a b c : ℕ) → a < 100 → b < 100 → c < 100 → in_places a b c < 0x64000000000000
parts_small a b c f g h = omega arith

tens_less : (a b c : ℕ) → in_places (a / 10) (b / 10) (c / 10) * 2559 ≤ in_places a b c * 256
tens_less a b c = omega arith

module _ (x n k : ℕ) (less : x < 1000000) (f : n ≡ x * 429497 % 2 ^ 32) (i : k ≡ n * 100 % 2 ^ 32) where
  -- The numbers of two digits, as the code takes them from its products.
  abbrev twos : ℕ
  twos = in_places (x * 429497 / 2 ^ 32) (n * 100 / 2 ^ 32) (k * 100 / 2 ^ 32)

  twos_are : twos ≡ in_places (high_two x) (middle_two x) (low_two x)
  twos_are =
      let p = by_products (high_two x) (middle_two x) (low_two x)
      (high_two_lem x less) (middle_two_lem x less) (low_two_lem x less) (x * 429497) n (n * 100) k (k * 100)
      (ap (λ (y : ℕ). y * 429497) (in_parts x less)) f refl i refl in
      rw (p.0, p.1, p.2)

  pub twos_small : twos < 0x64000000000000
  twos_small =
      rw twos_are (parts_small (high_two x) (middle_two x) (low_two x) (high_two_lem x less) (middle_two_lem x less) (low_two_lem x less))

  pub tens_small : bit_and (twos * 103) 0x3C003C003C000000 / 2 ^ 10 * 2559 ≤ twos * 256
  tens_small = rw (twos_are, tens_of x less) (tens_less (high_two x) (middle_two x) (low_two x))

  pub start_by_products : twos * 256 - bit_and (twos * 103) 0x3C003C003C000000 / 2 ^ 10 * 2559 + 0x303030303030304C
      ≡ number (letter_l ∷ seven_digits x)
  start_by_products = rw twos_are (line_start_of x less)

pub start_small : (x : ℕ) → number (letter_l ∷ seven_digits x) < 2 ^ 64
unfolding digits_of total
start_small x = number_small (letter_l ∷ seven_digits x)

pub start_cut : (x : ℕ) → cut (replicate 8 8) (number (letter_l ∷ seven_digits x)) ≡ letter_l ∷ seven_digits x
unfolding digits_of
start_cut x = cut_number (letter_l ∷ seven_digits x) (start_bytes x)
