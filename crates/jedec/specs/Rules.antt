-- What a judged field adds to what the fields before it gave, and what all fields give: the count, the start state, the
-- lists of states, the fuse sum, and the image. Which fields may stand where is decided here and nowhere else.
use Rattle.std.specs.Prelude.{ℕ, ◌+◌, ◌*◌, ◌-◌, ◌/◌, Bool, true, false, cond, not, ◌&&◌, ◌||◌, List, [], ◌∷◌, ◌++◌, eqb, ltb, leb, length, get_or}
use Rattle.std.proofs.Math.Option.{Option}
use Rattle.std.proofs.Math.Option.Option.{none, some}
use Rattle.part.specs.Lowest.{lowest}
use Rattle.image.specs.Bits.{gathered, tabulate}
use Rattle.jedec.specs.Cut.{Field}
use Rattle.jedec.specs.Judge.{Judged, judge}
use Rattle.jedec.specs.Judge.Judged.{count, start, list, sum, skipped, bad}

-- A number, and where the field that gives it starts.
pub record At : Type 0 where
  pub at : ℕ
  pub value : ℕ

-- An L field: where it starts, its first fuse, the states from there on.
pub record Listed : Type 0 where
  pub at : ℕ
  pub first : ℕ
  pub states : List ℕ

-- What the fields so far gave: QF, F, the L fields in order, C.
pub record Given : Type 0 where
  pub count : Option At
  pub start : Option ℕ
  pub lists : List Listed
  pub sum : Option At

abbrev pub nothing_given : Given
nothing_given = record { count = none; start = none; lists = []; sum = none }

abbrev pub has : {A : Type 0} → Option A → Bool
has none = false
has (some x) = true

abbrev pub has_any : {A : Type 0} → List A → Bool
has_any [] = false
has_any (x ∷ xs) = true

-- "`QF` .. exactly once, before any F, L or C. `F0` or `F1`, at most once, before any L. .. `C` .. at most once, after
-- the last L (an L after it is the bad field)."
abbrev pub in_order : Given → Judged → Bool
in_order k (count n) = not (has k.count)
in_order k (start s) = has k.count && not (has k.start) && not (has_any k.lists)
in_order k (list first states) = has k.count && not (has k.sum)
in_order k (sum x) = has k.count && not (has k.sum)
in_order k skipped = true
in_order k bad = false

-- What is given after a field that starts at an offset.
abbrev pub after : Given → ℕ → Judged → Given
after k at (count n) =
    record { count = some (record { at = at; value = n }); start = k.start; lists = k.lists; sum = k.sum }
after k at (start s) = record { count = k.count; start = some s; lists = k.lists; sum = k.sum }
after k at (list first states) =
    record {
      count = k.count;
      start = k.start;
      lists = k.lists ++ (record { at = at; first = first; states = states } ∷ []);
      sum = k.sum;
    }
after k at (sum x) =
    record { count = k.count; start = k.start; lists = k.lists; sum = some (record { at = at; value = x }) }
after k at skipped = k
after k at bad = k

-- All fields in order, or where the first bad one starts.
pub data Fields : Type 0 where
  all_good : Given → Fields
  bad_at : ℕ → Fields

unfoldable pub all_fields : Given → List Field → Fields
all_fields k [] = all_good k
all_fields k (f ∷ fields) =
    cond (in_order k (judge f.bytes)) (all_fields (after k f.start (judge f.bytes)) fields) (bad_at f.start)

-- 8: "QF is not the device's count, or absent": its field; if absent, ETX.
abbrev pub wrong_count : (fuses etx : ℕ) → Option At → Option ℕ
wrong_count fuses etx none = some etx
wrong_count fuses etx (some q) = cond (eqb q.value fuses) none (some q.at)

-- 9: "an L starts before the end of the L before it, or runs past the count": its field.
abbrev pub end_of : Listed → ℕ
end_of l = l.first + length l.states

unfoldable pub misplaced : (fuses end : ℕ) → List Listed → Option ℕ
misplaced fuses end [] = none
misplaced fuses end (l ∷ lists) =
    cond (ltb l.first end || ltb fuses (end_of l)) (some l.at) (misplaced fuses (end_of l) lists)

-- Whether an L gives a fuse its state: it gives one state to each fuse from its first on.
abbrev pub inside : (fuse : ℕ) → Listed → Bool
inside fuse l = leb l.first fuse && ltb fuse (end_of l)

-- Whether some L gives a fuse its state.
unfoldable pub is_given : List Listed → (fuse : ℕ) → Bool
is_given [] fuse = false
is_given (l ∷ lists) fuse = inside fuse l || is_given lists fuse

-- The first fuse below the count that no L gives its state, or the count.
abbrev pub first_not_given : (fuses : ℕ) → List Listed → ℕ
first_not_given fuses lists = lowest (λ fuse. not (is_given lists fuse)) fuses

-- 13, K3 of document 02: "a text without F must give every fuse by L fields"; it "returns the first fuse not given". So
-- where there is no F it is given for the first such fuse, if that is below the count.
abbrev pub without_start : (fuses : ℕ) → (state : Option ℕ) → (first : ℕ) → Option ℕ
without_start fuses none first = cond (ltb first fuses) (some first) none
without_start fuses (some s) first = none

abbrev pub not_given : (fuses : ℕ) → (state : Option ℕ) → List Listed → Option ℕ
not_given fuses state lists = without_start fuses state (first_not_given fuses lists)

-- "the start state of all fuses; without it they start at 0": by K3 of document 02 every fuse is then in an L.
abbrev pub start_state : Option ℕ → ℕ
start_state none = 0
start_state (some s) = s

-- The state of a fuse: the one that an L gives it, or the start state.
unfoldable pub state_given : (from : ℕ) → List Listed → ℕ → ℕ
state_given from [] fuse = from
state_given from (l ∷ lists) fuse =
    cond (inside fuse l) (get_or l.states (fuse - l.first) 0) (state_given from lists fuse)

-- The image of so many fuses: one bit a fuse, fuse f is bit f mod 8 of byte f div 8, bits past the last fuse 0.
abbrev pub within : (fuses : ℕ) → (ℕ → ℕ) → ℕ → ℕ
within fuses states fuse = cond (ltb fuse fuses) (states fuse) 0

unfoldable pub image_with : (fuses : ℕ) → (ℕ → ℕ) → List ℕ
image_with fuses states =
    tabulate ((fuses + 7) / 8) (λ index. gathered (λ bit. within fuses states (index * 8 + bit)) 8)

abbrev pub finished : (fuses : ℕ) → Given → List ℕ
finished fuses k = image_with fuses (state_given (start_state k.start) k.lists)
