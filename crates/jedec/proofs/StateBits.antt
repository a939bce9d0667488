-- The states that the fields of a text give are 0 or 1: the start state and those of every L.
-- Assumes nothing.
use mathlib.Core.Path.{◌≡◌, refl}
use mathlib.Core.Bool.{Bool, true, false, cond, ◌||◌}
use mathlib.Core.List.{List, [], ◌∷◌}
use mathlib.Core.Option.{Option}
use mathlib.Core.Option.Option.{none, some}
use Prim.Native.Nat.{ℕ, zero, suc, ◌-◌, ◌<◌}
use native.Mathlib.Omega.{arith}
use lib.Dec.{eqb}
use lib.ListN.{get_or, take, drop}
use borrow.Author.Tests.{eqb-true}
use Rattle.part.proofs.Facts.{either}
use Rattle.jedec.specs.Characters.{is_blank, and_then, number_in, sum_in, letter_c, letter_f, letter_j, letter_l, letter_n, letter_p, letter_q}
use Rattle.jedec.specs.Characters.{letter_v, letter_x}
use Rattle.jedec.specs.Cut.{Field, holds_mark}
use Rattle.jedec.specs.Judge.{Judged, or_bad, start_in, unbroken, with_first, states_in, states_from, list_in, after_q, by_letters, judge}
use Rattle.jedec.specs.Judge.Judged.{count, start, list, sum, skipped, bad}
use Rattle.jedec.specs.Rules.{Given, in_order, after, Fields, all_fields, start_state}
use Rattle.jedec.specs.Rules.Fields.{all_good, bad_at}
use Rattle.jedec.specs.Form.{Each}
use Rattle.jedec.proofs.Lists.{each_more}
use Rattle.jedec.proofs.Places.{chosen}

abbrev pub Bits : List ℕ → Type 0
Bits states = (i : ℕ) → get_or states i 0 < 2

abbrev ReadBits : Option (List ℕ) → Type 0
ReadBits none = Unit {0}
ReadBits (some states) = Bits states

abbrev JudgedBits : Judged → Type 0
JudgedBits (count n) = Unit {0}
JudgedBits (start s) = s < 2
JudgedBits (list first states) = Bits states
JudgedBits (sum x) = Unit {0}
JudgedBits skipped = Unit {0}
JudgedBits bad = Unit {0}

more_bits : (s : ℕ) (states : List ℕ) → s < 2 → Bits states → Bits (s ∷ states)
more_bits s states h bits zero = h
more_bits s states h bits (suc i) = bits i

states_bits : (bytes : List ℕ) → ReadBits (states_in bytes)
unfolding states_in
states_bits [] = λ i. omega arith
states_bits (b ∷ bytes) = chosen ReadBits (is_blank b) (states_bits bytes) (digit (states_bits bytes) (eqb b 48 || eqb b 49) refl)
  where
    before_bits : b - 48 < 2 → (o : Option (List ℕ)) → ReadBits o → ReadBits (and_then o (with_first (b - 48)))
    before_bits h none bits = tt
    before_bits h (some states) bits = more_bits (b - 48) states h bits

    digit : ReadBits (states_in bytes) → (t : Bool) → (eqb b 48 || eqb b 49) ≡ t
        → ReadBits (cond t (and_then (states_in bytes) (with_first (b - 48))) none)
    digit bits true e =
        before_bits (either (eqb b 48) (eqb b 49) e (λ z. omega (arith, eqb-true b 48 z)) (λ z. omega (arith, eqb-true b 49 z)))
        (states_in bytes) bits
    digit bits false e = tt

judged_bits : (bytes : List ℕ) → JudgedBits (judge bytes)
unfolding judge list_in
judged_bits bytes = chosen JudgedBits (holds_mark bytes) tt (by_letters_lem bytes)
  where
    number : (o : Option ℕ) (f : ℕ → Judged) → ((x : ℕ) → JudgedBits (f x)) → JudgedBits (or_bad o f)
    number none f h = tt
    number (some x) f h = h x

    after_q_lem : (rest : List ℕ) → JudgedBits (after_q rest)
    after_q_lem [] = tt
    after_q_lem (b ∷ rest) =
        chosen JudgedBits (eqb b letter_f) (number (number_in rest) count (λ x. tt))
        (chosen JudgedBits (eqb b letter_p || eqb b letter_v) tt tt)

    start_state_lem : (rest : List ℕ) → JudgedBits (start_in rest)
    start_state_lem [] = tt
    start_state_lem (b ∷ []) = chosen JudgedBits (eqb b 48) (omega arith) (chosen JudgedBits (eqb b 49) (omega arith) tt)
    start_state_lem (b ∷ c ∷ rest) = tt

    some_states : (o : Option (List ℕ)) → ReadBits o → (first : ℕ) → JudgedBits (states_from o first)
    some_states none bits first = tt
    some_states (some []) bits first = tt
    some_states (some (s ∷ states)) bits first = bits

    by_letters_lem : (field : List ℕ) → JudgedBits (by_letters field)
    by_letters_lem [] = tt
    by_letters_lem (b ∷ rest) =
        chosen JudgedBits (eqb b letter_n || eqb b letter_j || eqb b letter_x) tt
        (chosen JudgedBits (eqb b letter_q) (after_q_lem rest)
        (chosen JudgedBits (eqb b letter_f) (start_state_lem rest)
        (chosen JudgedBits (eqb b letter_l) (number (number_in (take (unbroken rest) rest)) _
        (some_states (states_in (drop (unbroken rest) rest)) (states_bits (drop (unbroken rest) rest))))
        (chosen JudgedBits (eqb b letter_c) (number (sum_in rest) sum (λ x. tt)) tt))))

pub record GivenBits (k : Given) : Type 0 where
  pub start : start_state k.start < 2
  pub lists : Each (λ l. Bits l.states) k.lists

abbrev pub FieldsBits : Fields → Type 0
FieldsBits (all_good k) = GivenBits k
FieldsBits (bad_at at) = Unit {0}

after_bits : (k : Given) (at : ℕ) (j : Judged) → GivenBits k → JudgedBits j → GivenBits (after k at j)
after_bits k at (count n) bits h = record { start = bits.start; lists = bits.lists }
after_bits k at (start s) bits h = record { start = h; lists = bits.lists }
after_bits k at (list first states) bits h =
    record { start = bits.start; lists = each_more (λ l. Bits l.states) _ k.lists bits.lists h }
after_bits k at (sum x) bits h = record { start = bits.start; lists = bits.lists }
after_bits k at skipped bits h = bits
after_bits k at bad bits h = bits

pub fields_bits : (fields : List Field) (k : Given) → GivenBits k → FieldsBits (all_fields k fields)
unfolding all_fields
fields_bits [] k bits = bits
fields_bits (f ∷ fields) k bits =
    chosen FieldsBits (in_order k (judge f.bytes))
    (fields_bits fields _ (after_bits k f.start (judge f.bytes) bits (judged_bits f.bytes)))
    tt
