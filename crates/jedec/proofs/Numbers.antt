-- What is written in digits is read back: seven digits, a plain count, four hex digits.
-- One law over the base and the digits.
use mathlib.Core.Path.{◌≡◌, refl, ◌∙◌, ap}
use mathlib.Core.List.{List, [], ◌∷◌, ◌++◌}
use mathlib.Core.Option.{Option}
use mathlib.Core.Option.Option.{none, some}
use Prim.Native.Nat.{ℕ, zero, suc, ◌+◌, ◌*◌, ◌/◌, ◌%◌, ◌^◌, ◌<◌, ◌≤◌}
use native.Mathlib.Omega.{arith}
use native.Mathlib.Nat.{pow-zero, pow-suc, div-add-mod', div-lt_iff_lt-mul, mod-lt}
use lib.ListN.{length, length-append}
use borrow.Author.Tests.{le-leb}
use Rattle.part.specs.Device.{decimal_digits}
use Rattle.part.proofs.Facts.{by_cases}
use Rattle.part.proofs.Tables.{each_below}
use Rattle.jedec.specs.Characters.{and_then, decimal_value, hex_value, decimal_digit, hex_digit, digits_read, number_in, sum_in, digits_of}
use Rattle.jedec.specs.Characters.{count_digits, seven_digits, four_hex}

-- Digits after digits are read one list after the other.
read_append : (base : ℕ) (value : ℕ → Option ℕ) (x : ℕ) (xs ys : List ℕ)
    → digits_read base value x (xs ++ ys) ≡ and_then (digits_read base value x xs) (λ y. digits_read base value y ys)
unfolding digits_read
read_append base value x [] ys = refl
read_append base value x (b ∷ xs) ys = go (value b) (λ y. read_append base value (x * base + y) xs ys)
  where
    go : (o : Option ℕ) → ((y : ℕ) → digits_read base value (x * base + y) (xs ++ ys)
        ≡ and_then (digits_read base value (x * base + y) xs) (λ z. digits_read base value z ys))
        → and_then o (λ y. digits_read base value (x * base + y) (xs ++ ys))
        ≡ and_then (and_then o (λ y. digits_read base value (x * base + y) xs)) (λ z. digits_read base value z ys)
    go none step = refl
    go (some y) step = step y

module _ (base : ℕ) (digit : ℕ → ℕ) where
  pub digits_length : (count x : ℕ) → length (digits_of base digit count x) ≡ count
  unfolding digits_of
  digits_length zero x = refl
  digits_length (suc count) x =
      length-append (digits_of base digit count (x / base)) (digit (x % base) ∷ []) ∙ rw (digits_length count (x / base)) (omega arith)

module _ (base : ℕ) (positive : 0 < base) (value : ℕ → Option ℕ) (digit : ℕ → ℕ) where
  pub digits_back : ((y : ℕ) → y < base → value (digit y) ≡ some y) → (count x : ℕ) → x < base ^ count
      → digits_read base value 0 (digits_of base digit count x) ≡ some x
  unfolding digits_of digits_read
  digits_back back zero x h = ap some (omega (arith, pow-zero base))
  digits_back back (suc count) x h =
      let higher : x / base < base ^ count =
      (div-lt_iff_lt-mul {k = base} {x = x} {y = base ^ count} positive).1 (omega (arith, pow-suc base count)) in
      read_append base value 0 (digits_of base digit count (x / base)) (digit (x % base) ∷ [])
      ∙ rw (digits_back back count (x / base) higher, back (x % base) (mod-lt x positive)) (ap some (div-add-mod' x base))

-- A digit of either kind is read as the number that it was written for.
decimal_digit_lem : (y : ℕ) → y < 10 → decimal_value (decimal_digit y) ≡ some y
decimal_digit_lem =
    each_below (λ (y : ℕ). decimal_value (decimal_digit y) ≡ some y) 10
    (refl, (refl, (refl, (refl, (refl, (refl, (refl, (refl, (refl, (refl, tt))))))))))

hex_digit_lem : (y : ℕ) → y < 16 → hex_value (hex_digit y) ≡ some y
hex_digit_lem =
    each_below (λ (y : ℕ). hex_value (hex_digit y) ≡ some y) 16
    (refl, (refl, (refl, (refl, (refl, (refl, (refl, (refl, (refl, (refl, (refl, (refl, (refl, (refl, (refl, (refl, tt))))))))))))))))

-- A number written in 1 to 7 digits is read back.
pub number_back : (count x : ℕ) → 1 ≤ count → count ≤ 7 → x < 10 ^ count → number_in (digits_of 10 decimal_digit count x) ≡ some x
unfolding number_in
number_back count x some_digits few h =
    rw (digits_length 10 decimal_digit count x, le-leb 1 count some_digits, le-leb count 7 few)
    (digits_back 10 (omega arith) decimal_value decimal_digit decimal_digit_lem count x h)

pub seven_back : (x : ℕ) → x < 10 ^ 7 → number_in (seven_digits x) ≡ some x
seven_back x h = number_back 7 x (omega arith) (omega arith) h

-- A plain count has as many digits as it needs.
record Enough (x count : ℕ) : Type 0 where
  some_digits : 1 ≤ count
  few : count ≤ 7
  enough : x < 10 ^ count

enough_digits : (x : ℕ) → x < 10 ^ 7 → Enough x (decimal_digits x)
enough_digits x h =
    by_cases (Enough x) x 10 (λ l. of 1 (omega arith) (omega arith) l) (λ m1.
    by_cases (Enough x) x 100 (λ l. of 2 (omega arith) (omega arith) l) (λ m2.
    by_cases (Enough x) x 1000 (λ l. of 3 (omega arith) (omega arith) l) (λ m3.
    by_cases (Enough x) x 10000 (λ l. of 4 (omega arith) (omega arith) l) (λ m4.
    by_cases (Enough x) x 100000 (λ l. of 5 (omega arith) (omega arith) l) (λ m5.
    by_cases (Enough x) x 1000000 (λ l. of 6 (omega arith) (omega arith) l) (λ m6. of 7 (omega arith) (omega arith) h))))))
  where
    of : (count : ℕ) → 1 ≤ count → count ≤ 7 → x < 10 ^ count → Enough x count
    of count a b c = record { some_digits = a; few = b; enough = c }

pub count_back : (x : ℕ) → x < 10 ^ 7 → number_in (count_digits x) ≡ some x
count_back x h = let e = enough_digits x h in number_back (decimal_digits x) x e.some_digits e.few e.enough

-- A sum written in four hex digits is read back.
pub sum_back : (x : ℕ) → x < 2 ^ 16 → sum_in (four_hex x) ≡ some x
unfolding sum_in
sum_back x h = rw (digits_length 16 hex_digit 4 x) (digits_back 16 (omega arith) hex_value hex_digit hex_digit_lem 4 x h)
