-- `sum_in` meets its contract: the number that the digits so far wrote, and the digits still to come.
-- Assumes nothing.
use mathlib.Core.Path.{◌≡◌, ◌∙◌}
use mathlib.Core.List.{List}
use mathlib.Core.Option.Option.{none, some}
use Prim.Native.Nat.{ℕ, ◌+◌, ◌*◌, ◌^◌, ◌≤◌, ◌<◌}
use native.Mathlib.Omega.{arith}
use lib.ListN.{length, get_or}
use borrow.Author.Rules.{rules}
use borrow.Author.Tests.{eq-eqb, ne_eqb}
use Rattle.jedec.specs.Characters.{hex_value, digits_read, sum_in}
use Rattle.jedec_judge.proofs.DigitsRead.{digit_below, hex_below, Reading, reading_goes, reading_stops, reading_ends}
use Rattle.jedec_judge.proofs.DigitsRead.{reading_small}
use Rattle.jedec_judge.proofs.digits.sum_in.Goals as goal

not_four : (bytes : List ℕ) → (length bytes ≡ 4 → ⊥) → none ≡ sum_in bytes
unfolding sum_in
not_four bytes h = rw (ne_eqb (length bytes) 4 h)

module _ (bytes : List ℕ) (m : length bytes ≡ 4) where
  four : digits_read 16 hex_value 0 bytes ≡ sum_in bytes
  unfolding sum_in
  four = rw (eq-eqb (length bytes) 4 m)

  module _ (x i : ℕ) (r : Reading 16 hex_value bytes x i) where
    all_digits : length bytes ≤ i → some x ≡ sum_in bytes
    all_digits l = reading_ends 16 hex_value bytes x i r l ∙ four

    module _ (l : i < length bytes) where
      small : x < 65536
      small = reading_small 16 hex_value bytes x i 4 r (omega arith) (omega arith)

      no_overflow : x * 16 < 2 ^ 32
      no_overflow = omega (arith, small)

      no_digit : none ≡ hex_value (get_or bytes i 0) → none ≡ sum_in bytes
      no_digit e = reading_stops 16 hex_value bytes x i r l e ∙ four

      module _ (y : ℕ) (e : some y ≡ hex_value (get_or bytes i 0)) where
        less : y < 16
        less = digit_below 16 y _ (hex_below (get_or bytes i 0)) e

        one_more : Reading 16 hex_value bytes (x * 16 + y) (i + 1)
        one_more = reading_goes 16 hex_value bytes x i r l y e less

        fits : x * 16 + y < 2 ^ 32
        fits = omega (arith, small, less)

pub returns-then-bytes-ne4 : goal.returns-then-bytes-ne4
returns-then-bytes-ne4 c = search (rules, not_four)

pub overflow_mul-sum : goal.overflow_mul-sum
overflow_mul-sum c = record { fits = search (rules, no_overflow) }

pub returns-in_err-sum : goal.returns-in_err-sum
returns-in_err-sum c = rw c.from_residual.ensures (search (rules, no_digit))

pub loop-b-preserved : goal.loop-b-preserved
loop-b-preserved c = search (rules, one_more, c.in_ok-sum.ensures)

pub returns : goal.returns
returns c = search (rules, all_digits)
