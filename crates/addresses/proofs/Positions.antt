-- Positions of fuses: the address of a byte times 8, plus a bit. What the rows add to it, and what fields add up to.
-- Assumes nothing.
use mathlib.Core.Path.{◌≡◌, refl}
use Prim.Native.Nat.{ℕ, ◌+◌, ◌*◌, ◌-◌, ◌/◌, ◌%◌, ◌^◌, ◌<◌, ◌≤◌}
use native.Mathlib.Omega.{arith}
use native.Mathlib.Nat.{mod-lt}
use borrow.Author.Tests.{lt-ltb, le-ltb}
use Rattle.part.specs.Device.{main_fuses, subarea_fuses}
use Rattle.part.specs.Place.{column_in_row, bit_in_row, place_in_block}
use Rattle.part.specs.declared.Place.{Place}
use Rattle.part.proofs.Facts.{compared, by_cases}
use Rattle.part.proofs.Portions.{in_portion, subarea_of}
use Rattle.addresses.specs.Address.{address_of_byte}

-- The position of a place.
abbrev pub position : Place → ℕ
position p = address_of_byte p.byte * 8 + p.bit

-- What a main row adds: before column 5, from there to column 10, and from there on.
abbrev pub in_main_row : ℕ → ℕ
in_main_row x = (column_in_row 9 6 x / 5 * 2 ^ 3 + column_in_row 9 6 x % 5) * 8 + bit_in_row 9 6 x

pub before_5 : (x : ℕ) → x < 40 → x ≡ in_main_row x
before_5 x h = rw (lt-ltb x 72 (omega arith)) (omega arith)

pub before_10 : (x : ℕ) → 40 ≤ x → x < 78 → 64 + (x - 40) ≡ in_main_row x
before_10 x g h =
    compared x 72
    (λ l. rw (lt-ltb x 72 l) (omega arith))
    (λ m.
    let column : (x - 72) / 6 ≡ 0 = omega arith in
    rw (le-ltb x 72 m, column) (omega arith))

pub from_10 : (x q r : ℕ) → 78 ≤ x → x < 108 → q ≡ (x - 78) / 6 → r ≡ (x - 78) % 6 → 128 + q * 8 + r ≡ in_main_row x
from_10 x q r g h e f =
    let column : (x - 72) / 6 ≡ 1 + (x - 78) / 6 = omega arith in
    let small : (x - 78) / 6 < 5 = omega arith in
    let bit : (x - 72) % 6 ≡ (x - 78) % 6 = omega arith in
    rw (le-ltb x 72 (omega arith), column, bit) (omega arith)

-- What a wire-AND row adds.
abbrev pub in_wire_and_row : ℕ → ℕ
in_wire_and_row x = column_in_row 1 7 x * 8 + bit_in_row 1 7 x

pub in_first : (x : ℕ) → x < 8 → x ≡ in_wire_and_row x
in_first x h = rw (lt-ltb x 8 h) (omega arith)

pub behind_first : (x q r : ℕ) → 8 ≤ x → q ≡ (x - 8) / 7 → r ≡ (x - 8) % 7 → 8 + q * 8 + r ≡ in_wire_and_row x
behind_first x q r h e f = rw (le-ltb x 8 h) (omega arith)

-- Both fit below the field of the row.
pub main_fits : (x low : ℕ) → x < 108 → low ≡ in_main_row x → low < 2 ^ 8
main_fits x low h e =
    rw e (compared x 72 (λ l. rw (lt-ltb x 72 l) (omega arith)) (λ m. rw (le-ltb x 72 m) (omega arith)))

pub wire_and_fits : (x low : ℕ) → x < 36 → low ≡ in_wire_and_row x → low < 2 ^ 6
wire_and_fits x low h e =
    rw e (compared x 8 (λ l. rw (lt-ltb x 8 l) (omega arith)) (λ m. rw (le-ltb x 8 m) (omega arith)))

-- The fields of a position add up to it.
pub main_composed : (block rest row left low high r : ℕ) → rest < main_fuses → row ≡ rest / 108 → left ≡ rest % 108 → low ≡ in_main_row left
    → high ≡ row * 2 ^ 8 + low → r ≡ block * 2 ^ 16 + high → r ≡ position (place_in_block block rest)
main_composed block rest row left low high r l er el e eh h = rw (lt-ltb rest 7776 l, ← el, ← er) (omega arith)

pub wire_and_composed : (block f before portion row left low rows numbered area r : ℕ) → main_fuses ≤ f - before * subarea_fuses
    → portion ≡ f / subarea_fuses → row ≡ f % subarea_fuses / 36 → left ≡ f % subarea_fuses % 36 → low ≡ in_wire_and_row left
    → rows ≡ row * 2 ^ 6 + low → numbered ≡ (portion - before - 12) * 2 ^ 11 + rows → area ≡ 1 * 2 ^ 15 + numbered
    → r ≡ block * 2 ^ 16 + area → r ≡ position (place_in_block block (f - before * subarea_fuses))
wire_and_composed block f before portion row left low rows numbered area r g ep er el e eo en ea h =
    rw (
      le-ltb (f - before * 648) 7776 g,
      in_portion f before _ g refl,
      subarea_of f before _ g refl portion ep,
      ← el,
      ← er,
    ) (omega arith)

-- A bit of a byte is below 8.
row_bit_small : (wide narrow x : ℕ) → 0 < narrow → narrow ≤ 8 → bit_in_row wide narrow x < 8
row_bit_small wide narrow x h l =
    by_cases (λ y. y < 8) x (wide * 8) (λ m. omega arith) (λ m. omega (arith, mod-lt (x - wide * 8) h))

pub bit_small : (block rest : ℕ) → (place_in_block block rest).bit < 8
bit_small block rest =
    compared rest 7776
    (λ l. rw (lt-ltb rest 7776 l) (row_bit_small 9 6 (rest % 108) (omega arith) (omega arith)))
    (λ g. rw (le-ltb rest 7776 g) (row_bit_small 1 7 ((rest - 7776) % 648 % 36) (omega arith) (omega arith)))
