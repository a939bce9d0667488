-- The words of a text, which stand between its spaces, and the number in a word.
-- An index below 36, in digits, holds no space and is read back.
use mathlib.Core.Path.{◌≡◌, refl, sym, ap}
use mathlib.Core.Bool.{Bool, true, false, cond, not, ◌&&◌, true≢false}
use mathlib.Core.List.{List, [], ◌∷◌, ◌++◌}
use Prim.Native.Nat.{ℕ, ◌+◌, ◌*◌, ◌-◌, ◌<◌}
use lib.Dec.{eqb, ltb}
use Rattle.part.proofs.Facts.{and_iff, tests}
use Rattle.part.proofs.Tables.{below_all}
use Rattle.jedec.specs.Characters.{space, count_digits, digits_of}

-- The first word, those behind it, and all.
abbrev pub first_word : List ℕ → List ℕ
first_word [] = []
first_word (b ∷ text) = cond (eqb b space) [] (b ∷ first_word text)

abbrev pub later_words : List ℕ → List (List ℕ)
later_words [] = []
later_words (b ∷ text) = cond (eqb b space) (first_word text ∷ later_words text) (later_words text)

abbrev pub words : List ℕ → List (List ℕ)
words text = first_word text ∷ later_words text

-- The number that the digits of a word write, after a number that those before them wrote. A letter writes nothing.
abbrev pub number : ℕ → List ℕ → ℕ
number x [] = x
number x (b ∷ word) = number (cond (ltb b 58) (x * 10 + (b - 48)) x) word

-- Bytes of one word.
abbrev spaceless : List ℕ → Bool
spaceless [] = true
spaceless (b ∷ word) = not (eqb b space) && spaceless word

-- A text behind such bytes: they stand in its first word.
module _ (text more : List ℕ) where
  record Before (start : List ℕ) : Type 0 where
    first : first_word ((start ++ text) ++ more) ≡ start ++ first_word (text ++ more)
    later : later_words ((start ++ text) ++ more) ≡ later_words (text ++ more)

  before : (start : List ℕ) → spaceless start ≡ true → Before start
  before [] h = record { first = refl; later = refl }
  before (b ∷ start) h =
      let both = (and_iff (not (eqb b space)) (spaceless start)).0 h in step (eqb b space) refl both.0 (before start both.1)
    where
      step : (t : Bool) → eqb b space ≡ t → not t ≡ true → Before start → Before (b ∷ start)
      step true e n rest = absurd (true≢false (sym n))
      step false e n rest = record { first = rw e (ap (λ (w : List ℕ). b ∷ w) rest.first); later = rw e rest.later }

-- The test of an index in digits, and what it gives: they stand in one word, and are read back.
abbrev right : ℕ → Bool
right n = spaceless (count_digits n) && eqb (number 0 (count_digits n ++ [])) n

module _ (n : ℕ) (small : n < 36) where
  index_right : (spaceless (count_digits n) ≡ true) × (number 0 (count_digits n ++ []) ≡ n)
  unfolding digits_of
  index_right = simp tests at (below_all right 36 refl n small)

  pub first_index : (text more : List ℕ) → first_word ((count_digits n ++ text) ++ more) ≡ count_digits n ++ first_word (text ++ more)
  first_index text more = (before text more (count_digits n) index_right.0).first

  pub later_index : (text more : List ℕ) → later_words ((count_digits n ++ text) ++ more) ≡ later_words (text ++ more)
  later_index text more = (before text more (count_digits n) index_right.0).later

  pub index_back : number 0 (count_digits n ++ []) ≡ n
  index_back = index_right.1

pub ruleset indices = (first_index, later_index, index_back)
