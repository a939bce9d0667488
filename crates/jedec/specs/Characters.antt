-- The bytes of a JEDEC text, and numbers in digits: ASCII codes; STX, ETX and blanks as document 01 gives them.
-- Hex is read in either case and written in upper case.
use Rattle.std.specs.Prelude.{ℕ, zero, suc, ◌+◌, ◌*◌, ◌-◌, ◌/◌, ◌%◌, Bool, cond, ◌&&◌, ◌||◌, List, [], ◌∷◌, ◌++◌, eqb, leb, length}
use Rattle.std.proofs.Math.Option.{Option}
use Rattle.std.proofs.Math.Option.Option.{none, some}
use Rattle.part.specs.Device.{decimal_digits}

-- STX (2), ETX (3), LF, space, `*`.
abbrev pub stx : ℕ
stx = 2

abbrev pub etx : ℕ
etx = 3

abbrev pub lf : ℕ
lf = 10

abbrev pub space : ℕ
space = 32

abbrev pub star : ℕ
star = 42

-- The letters that fields start with.
abbrev pub letter_c : ℕ
letter_c = 67

abbrev pub letter_f : ℕ
letter_f = 70

abbrev pub letter_j : ℕ
letter_j = 74

abbrev pub letter_l : ℕ
letter_l = 76

abbrev pub letter_n : ℕ
letter_n = 78

abbrev pub letter_p : ℕ
letter_p = 80

abbrev pub letter_q : ℕ
letter_q = 81

abbrev pub letter_v : ℕ
letter_v = 86

abbrev pub letter_x : ℕ
letter_x = 88

-- Blanks: space, tab, CR, LF.
abbrev pub is_blank : ℕ → Bool
is_blank b = eqb b space || eqb b 9 || eqb b 13 || eqb b lf

-- Whether a byte is STX or ETX, which neither the design text nor a field holds.
abbrev pub is_mark : ℕ → Bool
is_mark b = eqb b stx || eqb b etx

-- What a decimal digit and a hex digit stand for, if the byte is one.
abbrev pub between : (low high base : ℕ) → ℕ → Option ℕ → Option ℕ
between low high base b other = cond (leb low b && leb b high) (some (b - low + base)) other

abbrev pub decimal_value : ℕ → Option ℕ
decimal_value b = between 48 57 0 b none

abbrev pub hex_value : ℕ → Option ℕ
hex_value b = between 48 57 0 b (between 65 70 10 b (between 97 102 10 b none))

-- The digit of a number below ten, and of one below sixteen.
abbrev pub decimal_digit : ℕ → ℕ
decimal_digit x = 48 + x

abbrev pub hex_digit : ℕ → ℕ
hex_digit x = cond (leb x 9) (48 + x) (55 + x)

-- What follows where something was found.
abbrev pub and_then : {A B : Type 0} → Option A → (A → Option B) → Option B
and_then none f = none
and_then (some x) f = f x

-- The number that digits write, after a number that the digits before them wrote.
unfoldable pub digits_read : (base : ℕ) → (ℕ → Option ℕ) → ℕ → List ℕ → Option ℕ
digits_read base digit x [] = some x
digits_read base digit x (b ∷ bytes) = and_then (digit b) (λ y. digits_read base digit (x * base + y) bytes)

-- 1 to 7 decimal digits, and four hex digits, with nothing else.
unfoldable pub number_in : List ℕ → Option ℕ
number_in bytes = cond (leb 1 (length bytes) && leb (length bytes) 7) (digits_read 10 decimal_value 0 bytes) none

unfoldable pub sum_in : List ℕ → Option ℕ
sum_in bytes = cond (eqb (length bytes) 4) (digits_read 16 hex_value 0 bytes) none

-- A number written in so many digits.
unfoldable pub digits_of : (base : ℕ) → (ℕ → ℕ) → (count : ℕ) → ℕ → List ℕ
digits_of base digit zero x = []
digits_of base digit (suc count) x = digits_of base digit count (x / base) ++ (digit (x % base) ∷ [])

-- The plain count, seven digits, four upper-case hex digits.
abbrev pub count_digits : ℕ → List ℕ
count_digits x = digits_of 10 decimal_digit (decimal_digits x) x

abbrev pub seven_digits : ℕ → List ℕ
seven_digits x = digits_of 10 decimal_digit 7 x

abbrev pub four_hex : ℕ → List ℕ
four_hex x = digits_of 16 hex_digit 4 x
