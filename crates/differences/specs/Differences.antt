-- What changed between two images of one device: document 02, K1. "the number of fuses that differ and then each one in
-- ascending order: number, old state, new state, and its name, or `unnamed`", each line ended by LF.
use Rattle.std.specs.Prelude.{ℕ, zero, suc, ◌+◌, cond, List, [], ◌∷◌, ◌++◌, eqb, length}
use Rattle.part.specs.Outcome.{Outcome}
use Rattle.part.specs.Device.{fuse_count, image_bytes}
use Rattle.part.specs.Sizes.{if_known, if_length, bytes_put, at_start}
use Rattle.part.specs.declared.Device.{Device}
use Rattle.image.specs.Image.{state}
use Rattle.jedec.specs.Characters.{lf, space, decimal_digit, count_digits}
use Rattle.jedec.specs.Quoted.{chars}
use Rattle.names.specs.Names.{name_at}

-- The fuses whose states differ, of so many from a fuse on, in ascending order.
unfoldable pub differing : (old new : List ℕ) → (from count : ℕ) → List ℕ
differing old new from zero = []
differing old new from (suc count) =
    cond (eqb (state old from) (state new from)) (differing old new (from + 1) count)
    (from ∷ differing old new (from + 1) count)

unfoldable pub differing_fuses : Device → (old new : List ℕ) → List ℕ
differing_fuses d old new = differing old new 0 (fuse_count d)

-- The line of a fuse: number, old state, new state, name.
unfoldable pub line_of : Device → (old new : List ℕ) → (fuse : ℕ) → List ℕ
line_of d old new fuse =
    count_digits fuse ++ space ∷ decimal_digit (state old fuse) ∷ space ∷ decimal_digit (state new fuse) ∷ space
    ∷ name_at d fuse
    ++ lf ∷ []

-- The lines of some fuses.
unfoldable pub lines_of : Device → (old new fuses : List ℕ) → List ℕ
lines_of d old new [] = []
lines_of d old new (fuse ∷ fuses) = line_of d old new fuse ++ lines_of d old new fuses

-- How many differ, and then their lines.
abbrev pub first_line : ℕ → List ℕ
first_line count = count_digits count ++ chars " differ" ++ lf ∷ []

unfoldable pub text_of : Device → (old new : List ℕ) → List ℕ
text_of d old new =
    first_line (length (differing_fuses d old new)) ++ lines_of d old new (differing_fuses d old new)

-- The bytes written, with refusals 1, 2 and 12; and what the buffer then holds: the bytes behind the text stay.
unfoldable pub to_differences : Device → (old new buffer : List ℕ) → Outcome ℕ
to_differences d old new buffer =
    if_known d (if_length (length old) (image_bytes d) (if_length (length new) (image_bytes d)
    (bytes_put (text_of d old new) buffer)))

abbrev pub with_differences : Device → (old new buffer : List ℕ) → List ℕ
with_differences d old new buffer = at_start (text_of d old new) buffer
