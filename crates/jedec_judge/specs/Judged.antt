-- What the answers about numbers and judged fields say, in the terms of crate `jedec`.
-- A field is judged without a list of its states: they are read off its bytes, and few are told as bits.
use Rattle.std.specs.Prelude.{ℕ, ◌-◌, ◌^◌, ◌≤◌, ◌<◌, ◌≡◌, true, List, [], length, get_or, take, drop, replicate}
use Rattle.std.specs.Prelude as code
use Rattle.std.proofs.Math.Option.{Option}
use Rattle.std.proofs.Math.Option.Option.{none, some}
use Rattle.cells.specs.Cells.{cut}
use Rattle.jedec.specs.Characters.{letter_l, decimal_value, digits_read}
use Rattle.jedec.specs.Cut.{starts_with}
use Rattle.jedec.specs.Judge.{Judged, states_in, list_in}
use Rattle.jedec.specs.Judge.Judged.{count, start, list, sum, skipped, bad}
use Rattle.jedec_judge.specs.declared.digits.LeadingDigits.{LeadingDigits}
use Rattle.jedec_judge.specs.declared.FuseList.{FuseList}
use Rattle.jedec_judge.specs.declared.FieldSays.{FieldSays}
use Rattle.jedec_judge.specs.declared.FieldSays.TheVariants as says

-- What an answer about a digit or a number says.
abbrev pub number_read : code.Option ℕ → Option ℕ
number_read (code.Some x) = some x
number_read code.None = none

-- The first bytes that are digits write a number, and are at most seven; fewer only before a byte that is no digit.
pub record DigitsStand (bytes : List ℕ) (r : LeadingDigits) : Type 0 where
  pub inside : r.length ≤ length bytes
  pub few : r.length ≤ 7
  pub reads : digits_read 10 decimal_value 0 (take r.length bytes) ≡ some r.value
  pub stops : r.length < length bytes → r.length < 7 → decimal_value (get_or bytes r.length 0) ≡ none

-- The states, or none; and those that some bytes write.
abbrev pub or_empty : Option (List ℕ) → List ℕ
or_empty none = []
or_empty (some states) = states

unfoldable pub states_of : List ℕ → List ℕ
states_of bytes = or_empty (states_in bytes)

-- What an answer about a field says, with what follows the field's first letter.
abbrev pub judged_after : (after : List ℕ) → FieldSays → Judged
judged_after after (says.Count n) = count n
judged_after after (says.Start s) = start s
judged_after after (says.List l) = list l.first (states_of (drop l.skip after))
judged_after after (says.Sum x) = sum x
judged_after after says.Skipped = skipped
judged_after after says.Bad = bad

-- So many states, and no more, are told as bits of a word: "few" below.
abbrev pub states_in_word : ℕ
states_in_word = 64 - 8

-- Bits tell states, the first as the lowest.
pub record AsBits (states : List ℕ) (number bits : ℕ) : Type 0 where
  pub small : bits < 2 ^ number
  pub are : states ≡ cut (replicate number 1) bits

-- The states that an answer speaks of are there, and there are so many; few are told as bits.
pub record ListFits (after : List ℕ) (l : FuseList) : Type 0 where
  pub inside : l.skip ≤ length after
  pub found : states_in (drop l.skip after) ≡ some (states_of (drop l.skip after))
  pub many : length (states_of (drop l.skip after)) ≡ l.count
  pub few : l.count ≤ length after
  pub any : 0 < l.count
  pub told : l.count ≤ states_in_word → AsBits (states_of (drop l.skip after)) l.count l.bits

-- What an answer speaks of is there: a start state is 0 or 1, and states stand in the field.
abbrev pub SaysFits : (after : List ℕ) → FieldSays → Type 0
SaysFits after (says.Count n) = Unit {0}
SaysFits after (says.Start s) = s < 2
SaysFits after (says.List l) = ListFits after l
SaysFits after (says.Sum x) = Unit {0}
SaysFits after says.Skipped = Unit {0}
SaysFits after says.Bad = Unit {0}

-- An answer says what a field is judged to say.
pub record Says (after : List ℕ) (j : Judged) (r : FieldSays) : Type 0 where
  pub is : judged_after after r ≡ j
  pub fits : SaysFits after r

-- Any field that starts with an L is bad.
abbrev pub NoGoodList : List ℕ → Type 0
NoGoodList field = starts_with letter_l field ≡ true → list_in (drop 1 field) ≡ bad
