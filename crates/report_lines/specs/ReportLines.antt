-- The lines that the bench program writes: document 01, "Bench cases". The four lines of an image, and `refused N at V`
-- for a refusal.
use Rattle.std.specs.Prelude.{ℕ, List, [], ◌∷◌, ◌++◌}
use Rattle.part.specs.Device.{blocks_of, fuse_count}
use Rattle.part.specs.declared.Device.{Device}
use Rattle.image.specs.Image.{sum16, zeros_below}
use Rattle.jedec.specs.Characters.{lf, count_digits, four_hex}

-- `blocks `, `fuses `, `zero `, `sum `, `refused `, ` at `.
abbrev pub word_blocks : List ℕ
word_blocks = 98 ∷ 108 ∷ 111 ∷ 99 ∷ 107 ∷ 115 ∷ 32 ∷ []

abbrev pub word_fuses : List ℕ
word_fuses = 102 ∷ 117 ∷ 115 ∷ 101 ∷ 115 ∷ 32 ∷ []

abbrev pub word_zero : List ℕ
word_zero = 122 ∷ 101 ∷ 114 ∷ 111 ∷ 32 ∷ []

abbrev pub word_sum : List ℕ
word_sum = 115 ∷ 117 ∷ 109 ∷ 32 ∷ []

abbrev pub word_refused : List ℕ
word_refused = 114 ∷ 101 ∷ 102 ∷ 117 ∷ 115 ∷ 101 ∷ 100 ∷ 32 ∷ []

abbrev pub word_at : List ℕ
word_at = 32 ∷ 97 ∷ 116 ∷ 32 ∷ []

-- A line: a word, digits, LF.
abbrev pub line : (word digits : List ℕ) → List ℕ
line word digits = word ++ digits ++ lf ∷ []

-- The four lines of an image.
unfoldable pub count_lines : Device → (image : List ℕ) → List ℕ
count_lines d image =
    line word_blocks (count_digits (blocks_of d))
    ++ line word_fuses (count_digits (fuse_count d))
    ++ line word_zero (count_digits (zeros_below image (fuse_count d)))
    ++ line word_sum (four_hex (sum16 image))

-- The line of a refusal.
unfoldable pub refusal_line : (number value : ℕ) → List ℕ
refusal_line number value = word_refused ++ count_digits number ++ line word_at (count_digits value)
