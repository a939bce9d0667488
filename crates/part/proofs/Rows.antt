-- A row of `wide` columns of 8 bits and `more` columns of `narrow` bits: its bits are exactly the bits of its columns.
-- Proved once, for the main area's rows (9, 6, 6) and the wire-AND area's (1, 7, 4).
use mathlib.Core.Path.{◌≡◌, refl, ◌∙◌, ap}
use mathlib.Core.Bool.{Bool, true, false, cond}
use Prim.Native.Nat.{ℕ, ◌+◌, ◌*◌, ◌-◌, ◌/◌, ◌%◌, ◌≤◌, ◌<◌}
use native.Mathlib.Omega.{arith}
use native.Mathlib.Nat.{div-lt_iff_lt-mul, div-add-mod', mod-lt, mul-le-mul_left}
use lib.Arith.{digits_div, digits_mod, digits_lt}
use lib.Dec.{ltb}
use borrow.Author.Tests.{lt-ltb, le-ltb, ltb-true, ltb-false}
use Rattle.part.specs.Device.{column_width, column_start}
use Rattle.part.specs.Place.{column_in_row, bit_in_row}
use Rattle.part.proofs.Facts.{compared}

module _ (wide narrow : ℕ) where
  -- What holds of a wide and of a narrow column holds of every column.
  by_column : (Q : ℕ → ℕ → Type 0) (column : ℕ) → (column < wide → Q 8 (column * 8))
      → (wide ≤ column → Q narrow (wide * 8 + (column - wide) * narrow))
      → Q (column_width wide narrow column) (column_start wide narrow column)
  by_column Q column low high = go (ltb column wide) refl
    where
      go : (t : Bool) → ltb column wide ≡ t → Q (cond t 8 narrow) (cond t (column * 8) (wide * 8 + (column - wide) * narrow))
      go true e = low (ltb-true column wide e)
      go false e = high (ltb-false column wide e)

  -- No column starts later than it would if all were of 8 bits.
  pub start_le : (column : ℕ) → narrow ≤ 8 → column_start wide narrow column ≤ column * 8
  start_le column h =
      by_column (λ w s. s ≤ column * 8) column (λ l. omega arith) (λ g. omega (arith, mul-le-mul_left (column - wide) h))

module _ (wide narrow more : ℕ) (positive : 0 < narrow) where
  -- A bit of a row is the bit of a column.
  pub split_row : (Q : ℕ → ℕ → Type 0) (rest : ℕ) → rest < wide * 8 + more * narrow
      → ((column bit : ℕ) → column < wide + more → bit < column_width wide narrow column
      → column_start wide narrow column + bit ≡ rest → Q column bit)
      → Q (column_in_row wide narrow rest) (bit_in_row wide narrow rest)
  split_row Q rest h k =
      compared rest (wide * 8)
      (λ l.
      let less : ltb (rest / 8) wide ≡ true = lt-ltb (rest / 8) wide (omega arith) in
      rw (lt-ltb rest (wide * 8) l)
      (k (rest / 8) (rest % 8) (omega arith) (rw less (omega arith)) (rw less (omega arith))))
      (λ g.
      let q = (rest - wide * 8) / narrow in
      let small : q < more = (div-lt_iff_lt-mul positive).1 (omega arith) in
      let past : ltb (wide + q) wide ≡ false = le-ltb (wide + q) wide (omega arith) in
      let back : wide + q - wide ≡ q = omega arith in
      rw (le-ltb rest (wide * 8) g)
      (k (wide + q) ((rest - wide * 8) % narrow) (omega arith) (rw past (mod-lt (rest - wide * 8) positive))
      (rw (past, back) (omega (arith, div-add-mod' (rest - wide * 8) narrow)))))

  -- The bits of a column are bits of the row.
  pub in_row : (column bit : ℕ) → column < wide + more → bit < column_width wide narrow column
      → column_start wide narrow column + bit < wide * 8 + more * narrow
  in_row column bit h =
      by_column wide narrow (λ w s. bit < w → s + bit < wide * 8 + more * narrow) column
      (λ l b. omega arith)
      (λ g b. omega (arith, digits_lt {q = column - wide} {m = more} {r = bit} {c = narrow} (omega arith) b))

  -- And the bit of a column is found from it.
  pub join_row : (column bit : ℕ) → bit < column_width wide narrow column
      → (column_in_row wide narrow (column_start wide narrow column + bit) ≡ column)
      × (bit_in_row wide narrow (column_start wide narrow column + bit) ≡ bit)
  join_row column bit =
      by_column wide narrow (λ w s. bit < w → (column_in_row wide narrow (s + bit) ≡ column) × (bit_in_row wide narrow (s + bit) ≡ bit))
      column
      (λ l b.
      let less : ltb (column * 8 + bit) (wide * 8) ≡ true = lt-ltb (column * 8 + bit) (wide * 8) (omega arith) in
      rw less (digits_div column b, digits_mod column b))
      (λ g b.
      let q = (column - wide) * narrow in
      let past : ltb (wide * 8 + q + bit) (wide * 8) ≡ false = le-ltb (wide * 8 + q + bit) (wide * 8) (omega arith) in
      let back : wide * 8 + q + bit - wide * 8 ≡ q + bit = omega arith in
      let there : wide + (column - wide) ≡ column = omega arith in
      rw (past, back) (ap (λ (x : ℕ). wide + x) (digits_div (column - wide) b) ∙ there, digits_mod (column - wide) b))
