-- A number cut into cells of given widths, lowest bits first, and cells joined into a number. An image is a number cut
-- into cells of 8 bits; a readout is the same number cut into cells of the bytes' widths.
use Rattle.std.specs.Prelude.{ℕ, zero, suc, ◌+◌, ◌*◌, ◌/◌, ◌%◌, ◌^◌, List, [], ◌∷◌, ◌++◌, length, get_or, drop, replicate}

unfoldable pub cut : List ℕ → ℕ → List ℕ
cut [] x = []
cut (w ∷ ws) x = x % 2 ^ w ∷ cut ws (x / 2 ^ w)

-- The low bits of each cell count, and a cell that is not there counts as 0.
unfoldable pub join : List ℕ → List ℕ → ℕ
join [] cells = 0
join (w ∷ ws) cells = join ws (drop 1 cells) * 2 ^ w + get_or cells 0 0 % 2 ^ w

-- The bits of all the widths.
unfoldable pub total : List ℕ → ℕ
total [] = 0
total (w ∷ ws) = w + total ws

-- A list k times over.
unfoldable pub repeat : {A : Type 0} → ℕ → List A → List A
repeat zero ws = []
repeat (suc k) ws = ws ++ repeat k ws

-- Bytes as one number.
unfoldable pub number : List ℕ → ℕ
number bytes = join (replicate (length bytes) 8) bytes
