-- What the proofs of the differences work with: the ones of a word as fuses, the lengths of lines, text put from an
-- index
-- on with other bytes behind it. Assumes nothing.
use Rattle.std.specs.Prelude.{ℕ, zero, suc, ◌+◌, ◌*◌, ◌-◌, ◌/◌, ◌%◌, ◌^◌, ◌≤◌, ◌<◌, ◌≡◌, Bool, cond, List, [], ◌∷◌, ◌++◌, eqb, length, take, drop, replicate}
use Rattle.cells.specs.Cells.{join}
use Rattle.part.specs.declared.Device.{Device}
use Rattle.image.specs.Image.{state}
use Rattle.jedec.specs.Characters.{lf, space, decimal_digit, count_digits}
use Rattle.names.specs.Names.{name_at}
use Rattle.names.specs.Pieces.{text_of, name_text, AllFew}
use Rattle.differences.specs.Differences.{differing}
use Rattle.differences.specs.declared.lines.Line.{Line}

-- The ones among the low bits of a number, as fuses from a fuse on.
unfoldable pub ones_from : (from x count : ℕ) → List ℕ
ones_from from x zero = []
ones_from from x (suc count) =
    cond (eqb (x % 2) 0) (ones_from (from + 1) (x / 2) count) (from ∷ ones_from (from + 1) (x / 2) count)

-- A number whose bits are the states of an image from a fuse on.
abbrev pub HasStates : (image : List ℕ) → (from x : ℕ) → Type 0
HasStates image from x = (j : ℕ) → j < 64 → x / 2 ^ j % 2 ≡ state image (from + j)

-- Every fuse of a list is below a number.
abbrev pub AllBelow : ℕ → List ℕ → Type 0
AllBelow n [] = Unit {0}
AllBelow n (fuse ∷ fuses) = (fuse < n) × AllBelow n fuses

-- The bytes of a line, and of lines: they do not depend on the states.
unfoldable pub line_bytes : Device → ℕ → ℕ
line_bytes d fuse = length (count_digits fuse) + 4 + (1 + length (name_at d fuse)) + 1

unfoldable pub lines_bytes : Device → List ℕ → ℕ
lines_bytes d [] = 0
lines_bytes d (fuse ∷ fuses) = line_bytes d fuse + lines_bytes d fuses

-- The line of a fuse whose old state is given, and the lines of fuses whose old states are the bits of a number from a
-- fuse on: the new state of each is the other.
abbrev pub line_with : Device → (fuse old : ℕ) → List ℕ
line_with d fuse old =
    count_digits fuse
    ++ (space ∷ decimal_digit old ∷ space ∷ decimal_digit (1 - old) ∷ space ∷ name_at d fuse ++ lf ∷ [])

unfoldable pub lines_with : Device → (from states : ℕ) → List ℕ → List ℕ
lines_with d from states [] = []
lines_with d from states (fuse ∷ fuses) =
    line_with d fuse (states / 2 ^ (fuse - from) % 2) ++ lines_with d from states fuses

-- Text put from an index on, and the index behind it. Bytes behind the text may have changed, but none from an index
-- on.
pub record Laid (before after : List ℕ) (at until : ℕ) (text : List ℕ) (next : ℕ) : Type 0 where
  pub ends : next ≡ at + length text
  pub long : length after ≡ length before
  pub holds : take next after ≡ take at before ++ text
  pub behind : drop until after ≡ drop until before

-- Whether the eight bytes from an index on are the same in both.
abbrev pub same_word : (old new : List ℕ) → ℕ → Bool
same_word old new at = eqb (join (replicate 8 8) (drop at old)) (join (replicate 8 8) (drop at new))

-- What differs from a byte on.
abbrev pub differing_from : (old new : List ℕ) → (byte : ℕ) → List ℕ
differing_from old new byte = differing old new (byte * 8) (length old * 8 - byte * 8)

-- A line of these bytes.
pub record SpellsLine (l : Line) (text : List ℕ) : Type 0 where
  pub number_few : l.number.len ≤ 8
  pub states_few : l.states.len ≤ 8
  pub name_few : AllFew l.name
  pub end_few : l.end.len ≤ 8
  pub text_is : text_of l.number ++ text_of l.states ++ name_text l.name ++ text_of l.end ≡ text
