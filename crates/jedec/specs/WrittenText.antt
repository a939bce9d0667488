-- What the writer writes for an image of so many fuses, by a line pattern: for each L line the widths of its columns.
-- The order of the parts and the form of each are document 01's, "Reading and writing the text".
use Rattle.std.specs.Prelude.{ℕ, zero, suc, ◌+◌, ◌<◌, List, [], ◌∷◌, ◌++◌}
use Rattle.cells.specs.Cells.{total}
use Rattle.image.specs.Image.{state, sum16}
use Rattle.jedec.specs.Characters.{stx, etx, lf, space, star, letter_c, letter_f, letter_l, letter_q, decimal_digit}
use Rattle.jedec.specs.Characters.{count_digits, seven_digits, four_hex}

-- `*`, LF.
abbrev pub line_end : List ℕ
line_end = star ∷ lf ∷ []

-- The states of so many fuses, from a fuse on.
unfoldable pub states_text : (image : List ℕ) → (fuse width : ℕ) → List ℕ
states_text image fuse zero = []
states_text image fuse (suc width) = decimal_digit (state image fuse) ∷ states_text image (fuse + 1) width

-- "a space before each column's bits".
unfoldable pub columns_text : (image : List ℕ) → (fuse : ℕ) → (widths : List ℕ) → List ℕ
columns_text image fuse [] = []
columns_text image fuse (w ∷ widths) = space ∷ states_text image fuse w ++ columns_text image (fuse + w) widths

-- "L, seven digits, a space before each column's bits, `*`, LF".
abbrev pub line_text : (image : List ℕ) → (fuse : ℕ) → (widths : List ℕ) → List ℕ
line_text image fuse widths = letter_l ∷ seven_digits fuse ++ columns_text image fuse widths ++ line_end

unfoldable pub lines_text : (image : List ℕ) → (fuse : ℕ) → (pattern : List (List ℕ)) → List ℕ
lines_text image fuse [] = []
lines_text image fuse (widths ∷ pattern) = line_text image fuse widths ++ lines_text image (fuse + total widths) pattern

-- The fuses that a pattern has lines for, and that no line is empty.
unfoldable pub pattern_fuses : (pattern : List (List ℕ)) → ℕ
pattern_fuses [] = 0
pattern_fuses (widths ∷ pattern) = total widths + pattern_fuses pattern

abbrev pub NoneEmpty : (pattern : List (List ℕ)) → Type 0
NoneEmpty [] = Unit {0}
NoneEmpty (widths ∷ pattern) = (0 < total widths) × NoneEmpty pattern

-- Before the lines: "STX, `*`, LF; `QF`, the count, `*`, LF; `F0*`, LF". After them: "`C`, four upper-case digits, `*`,
-- LF; ETX".
abbrev pub head_text : (fuses : ℕ) → List ℕ
head_text fuses =
    stx ∷ line_end ++ letter_q ∷ letter_f ∷ count_digits fuses ++ line_end ++ letter_f ∷ decimal_digit 0 ∷ line_end

abbrev pub foot_text : (sum : ℕ) → List ℕ
foot_text sum = letter_c ∷ four_hex sum ++ line_end ++ etx ∷ []

unfoldable pub up_to_etx : (fuses : ℕ) → (pattern : List (List ℕ)) → (image : List ℕ) → List ℕ
up_to_etx fuses pattern image = head_text fuses ++ lines_text image 0 pattern ++ foot_text (sum16 image)

-- "and four upper-case digits": the sum of all bytes before them.
unfoldable pub text_with : (fuses : ℕ) → (pattern : List (List ℕ)) → (image : List ℕ) → List ℕ
text_with fuses pattern image = up_to_etx fuses pattern image ++ four_hex (sum16 (up_to_etx fuses pattern image))
