-- What the proofs of a line work with: the characters of a number's bits, the columns of a line, bytes stored with more
-- behind them. Assumes nothing.
use Rattle.std.specs.Prelude.{ℕ, ◌/◌, ◌^◌, ◌≤◌, ◌≡◌, List, [], ◌∷◌, ◌++◌, map, length, replicate}
use Rattle.std.proofs.lemmas.List.Edits.{sets}
use Rattle.cells.specs.Cells.{cut}
use Rattle.jedec.specs.Characters.{space, decimal_digit}

-- The low bits of a number in characters, lowest first.
unfoldable pub bits_text : (width : ℕ) → ℕ → List ℕ
bits_text width x = map decimal_digit (cut (replicate width 1) x)

-- A column of a line.
abbrev pub column_text : (width : ℕ) → ℕ → List ℕ
column_text width x = space ∷ bits_text width x

-- The columns of a line.
unfoldable pub columns_of : ℕ → List ℕ → List ℕ
columns_of x [] = []
columns_of x (w ∷ widths) = column_text w x ++ columns_of (x / 2 ^ w) widths

-- The widths that columns have.
abbrev pub Wide : ℕ → Type 0
Wide width = (6 ≤ width) × (width ≤ 8)

abbrev pub AllWide : List ℕ → Type 0
AllWide [] = Unit {0}
AllWide (w ∷ widths) = (Wide w) × AllWide widths

-- Some bytes stored from an index on, and at most two more behind them, which what is stored next replaces.
pub record Stored (before after : List ℕ) (at : ℕ) (bytes : List ℕ) : Type 0 where
  pub more : List ℕ
  pub few : length more ≤ 2
  pub holds : after ≡ sets before at (bytes ++ more)
