-- How a field's bytes are judged, by the letters that it starts with: "It is judged at its `*`: STX or ETX before that
-- makes it bad at its start. Blanks stand inside a field only where said."
use Rattle.std.specs.Prelude.{ℕ, suc, ◌-◌, cond, ◌||◌, List, [], ◌∷◌, eqb, take, drop}
use Rattle.std.proofs.Math.Option.{Option}
use Rattle.std.proofs.Math.Option.Option.{none, some}
use Rattle.jedec.specs.Characters.{letter_c, letter_f, letter_j, letter_l, letter_n, letter_p, letter_q, letter_v}
use Rattle.jedec.specs.Characters.{letter_x, is_blank, and_then, number_in, sum_in}
use Rattle.jedec.specs.Cut.{holds_mark}

pub data Judged : Type 0 where
  -- QF: the fuse count.
  count : ℕ → Judged
  -- F: the start state of all fuses.
  start : ℕ → Judged
  -- L: the first fuse, and the states from there on.
  list : (first : ℕ) → (states : List ℕ) → Judged
  -- C: the fuse sum.
  sum : ℕ → Judged
  -- N, J, X, QP, QV.
  skipped : Judged
  -- Any other.
  bad : Judged

-- A field of the number found, bad where none was.
abbrev pub or_bad : Option ℕ → (ℕ → Judged) → Judged
or_bad none f = bad
or_bad (some x) f = f x

-- "`F0` or `F1`": what follows the F.
abbrev pub start_in : List ℕ → Judged
start_in [] = bad
start_in (b ∷ []) = cond (eqb b 48) (start 0) (cond (eqb b 49) (start 1) bad)
start_in (b ∷ c ∷ bytes) = bad

-- "`L`, 1 to 7 digits, a blank, then at least one 0 or 1 with blanks allowed": what follows the L, up to
-- the first blank and from there on.
unfoldable pub unbroken : List ℕ → ℕ
unbroken [] = 0
unbroken (b ∷ bytes) = cond (is_blank b) 0 (suc (unbroken bytes))

-- A state before others.
abbrev pub with_first : ℕ → List ℕ → Option (List ℕ)
with_first state states = some (state ∷ states)

-- The states that 0 and 1 write, blanks left out; none if there is any other byte.
unfoldable pub states_in : List ℕ → Option (List ℕ)
states_in [] = some []
states_in (b ∷ bytes) =
    let after = states_in bytes in
    cond (is_blank b) after (cond (eqb b 48 || eqb b 49) (and_then after (with_first (b - 48))) none)

abbrev pub list_from : ℕ → List ℕ → Judged
list_from first [] = bad
list_from first (s ∷ states) = list first (s ∷ states)

abbrev pub states_from : Option (List ℕ) → ℕ → Judged
states_from none first = bad
states_from (some states) first = list_from first states

unfoldable pub list_in : List ℕ → Judged
list_in bytes = or_bad (number_in (take (unbroken bytes) bytes)) (states_from (states_in (drop (unbroken bytes) bytes)))

-- "`QF` and 1 to 7 digits"; QP and QV are skipped: what follows the Q.
abbrev pub after_q : List ℕ → Judged
after_q [] = bad
after_q (b ∷ bytes) =
    cond (eqb b letter_f) (or_bad (number_in bytes) count) (cond (eqb b letter_p || eqb b letter_v) skipped bad)

abbrev pub by_letters : List ℕ → Judged
by_letters [] = bad
by_letters (b ∷ bytes) =
    cond (eqb b letter_n || eqb b letter_j || eqb b letter_x)
    skipped
    (cond (eqb b letter_q)
    (after_q bytes)
    (cond (eqb b letter_f) (start_in bytes)
    (cond (eqb b letter_l) (list_in bytes) (cond (eqb b letter_c) (or_bad (sum_in bytes) sum) bad))))

unfoldable pub judge : List ℕ → Judged
judge bytes = cond (holds_mark bytes) bad (by_letters bytes)
