-- `tail_from` meets its contract: the digits so far, and what is left of the text.
-- Assumes nothing.
use mathlib.Core.Path.{◌≡◌, sym, ◌∙◌, ap}
use mathlib.Core.List.{List}
use mathlib.Core.Option.Option.{none, some}
use Prim.Native.Nat.{ℕ, ◌+◌, ◌*◌, ◌-◌, ◌^◌, ◌≤◌, ◌<◌}
use native.Mathlib.Nat.{pow-suc, pow-le-pow_right, lt_of_lt_of_le}
use native.Mathlib.Numerals.{add-one}
use native.Mathlib.Omega.{arith}
use lib.Arith.{digits_lt}
use lib.ListN.{length, get_or, drop, length-drop}
use borrow.Author.Rules.{rules}
use Rattle.std.specs.Prelude.{Ok, Err}
use Rattle.jedec.specs.Characters.{hex_value}
use Rattle.jedec.specs.Cut.{blanks_before, tail_from}
use Rattle.jedec.specs.Cut.Tail.{wrong}
use Rattle.jedec_judge.proofs.DigitsRead.{digit_below, hex_below}
use Rattle.jedec_end.specs.End.{TailStands}
use Rattle.jedec_end.proofs.Tails.{blanks_alone, other_first, tail_early, tail_wrong, tail_digit}
use Rattle.jedec_end.proofs.tail.tail_from.Invariants.{Run}
use Rattle.jedec_end.proofs.tail.tail_from.Goals as goal

module _ (text : List ℕ) (at sum read : ℕ) (r : Run text at sum read) where
  module _ (l : 4 ≤ read) where
    whole : tail_from (at + 4) 0 sum (drop (at + 4) text) ≡ tail_from at 4 0 (drop at text)
    whole = let z : read ≡ 4 = omega (arith, r.few) in rw z at r.rest

    left_after : length (drop (at + 4) text) + (at + 4) ≡ length text
    left_after = omega (arith, r.inside, length-drop (at + 4) text)

    then_blanks : at + 4 + blanks_before (drop (at + 4) text) ≡ length text
        → TailStands text at (tail_from at 4 0 (drop at text)) (Ok sum)
    then_blanks e =
        let all : blanks_before (drop (at + 4) text) ≡ length (drop (at + 4) text) = omega (arith, left_after) in
        record { is = sym (blanks_alone (drop (at + 4) text) (at + 4) sum all) ∙ whole; fits = tt }

    then_other : (other : ℕ) → other ≡ at + 4 + blanks_before (drop (at + 4) text) → other < length text
        → TailStands text at (tail_from at 4 0 (drop at text)) (Err other)
    then_other other e f =
        let less : blanks_before (drop (at + 4) text) < length (drop (at + 4) text) = omega (arith, left_after) in
        record { is = ap wrong e ∙ sym (other_first (drop (at + 4) text) (at + 4) sum less) ∙ whole; fits = omega arith }

  module _ (more : read < 4) where
    left : 0 < 4 - read
    left = omega arith

    below : sum < 65536
    below =
        let few : read ≤ 4 = omega arith in
        lt_of_lt_of_le r.small (pow-le-pow_right (omega arith) few)

    no_overflow : sum * 16 < 2 ^ 32
    no_overflow = omega (arith, below)

    early : at + read ≡ length text → TailStands text at (tail_from at 4 0 (drop at text)) (Err (at + read))
    early e = record { is = tail_early text (at + read) sum _ (4 - read) left r.rest (omega arith); fits = r.inside }

    module _ (n : at + read ≡ length text → ⊥) where
      there : at + read < length text
      there = omega (arith, r.inside)

      no_digit : none ≡ hex_value (get_or text (at + read) 0)
          → TailStands text at (tail_from at 4 0 (drop at text)) (Err (at + read))
      no_digit e = record { is = tail_wrong text (at + read) sum _ (4 - read) left r.rest there e; fits = r.inside }

      module _ (y : ℕ) (e : some y ≡ hex_value (get_or text (at + read) 0)) where
        less : y < 16
        less = digit_below 16 y _ (hex_below (get_or text (at + read) 0)) e

        no_overflow_for : sum * 16 + y < 2 ^ 32
        no_overflow_for = omega (arith, below, less)

        one_more : Run text at (sum * 16 + y) (read + 1)
        one_more =
            let next : at + (read + 1) ≡ at + read + 1 = omega arith in
            let fewer : 4 - (read + 1) ≡ 4 - read - 1 = omega arith in
            record {
              inside = omega (arith, there);
              few = omega arith;
              small = rw (add-one read, pow-suc 16 read) (digits_lt r.small less);
              rest = rw (next, fewer) (tail_digit text (at + read) sum _ (4 - read) left r.rest there y e);
            }

pub returns-then-i-text : goal.returns-then-i-text
returns-then-i-text c = search (rules, early)

pub returns-in_default : goal.returns-in_default
returns-in_default c = search (rules, no_digit)

pub overflow_mul-sum : goal.overflow_mul-sum
overflow_mul-sum c = record { fits = search (rules, no_overflow) }

pub overflow_add-sum : goal.overflow_add-sum
overflow_add-sum c = record { fits = search (rules, no_overflow_for) }

pub loop-read-preserved : goal.loop-read-preserved
loop-read-preserved c = search (rules, one_more, c.in-Some.ensures)

pub returns-in-Some-next_other : goal.returns-in-Some-next_other
returns-in-Some-next_other c = search (rules, then_other)

pub returns-in-None : goal.returns-in-None
returns-in-None c = search (rules, then_blanks)
