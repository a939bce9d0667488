-- Fuse numbers and places: each fuse below the count is the fuse of exactly one place that the device has.
-- Stated once for every block count.
use mathlib.Core.Path.{◌≡◌, ◌∙◌}
use mathlib.Core.Bool.{true, false}
use Prim.Native.Nat.{ℕ, ◌+◌, ◌*◌, ◌-◌, ◌/◌, ◌%◌, ◌≤◌, ◌<◌}
use native.Mathlib.Omega.{arith}
use native.Mathlib.Nat.{div-lt_iff_lt-mul, div-add-mod', mod-lt}
use lib.Arith.{digits_div, digits_mod, digits_lt}
use lib.Dec.{ltb}
use borrow.Author.Tests.{lt-ltb, le-ltb}
use Rattle.part.specs.Device.{fuse_count, block_fuses, main_fuses, main_start, wire_and_start}
use Rattle.part.specs.Place.{has_place, has_byte, width_of, fuse_of_place, place_in_main, place_in_wire_and, place_in_block, place_of_fuse}
use Rattle.part.specs.declared.Device.{Device}
use Rattle.part.specs.declared.Place.{Place}
use Rattle.part.specs.declared.BytePlace.{BytePlace}
use Rattle.part.specs.declared.BytePlace.TheVariants.{Main, WireAnd}
use Rattle.part.proofs.Facts.{by_cases, tests, and_iff}
use Rattle.part.proofs.Rows.{split_row, in_row, join_row}

-- A fuse below the count lies in a block that the device has.
pub block_inside : (d : Device) (f : ℕ) → f < fuse_count d → f / block_fuses d < d.blocks
unfolding fuse_count
block_inside d f h = (div-lt_iff_lt-mul {k = block_fuses d} {x = f} {y = d.blocks} (omega arith)).1 h

-- A fuse below the count lies at a place that the device has, and its number is that place's.
abbrev pub Lies : Device → ℕ → Place → Type 0
Lies d fuse p = (has_place d p ≡ true) × (fuse_of_place d p ≡ fuse)

pub at_fuse : (d : Device) (fuse : ℕ) → fuse < fuse_count d → Lies d fuse (place_of_fuse d fuse)
unfolding place_of_fuse has_place
at_fuse d fuse h =
    let block = fuse / block_fuses d in
    let rest = fuse % block_fuses d in
    let inside : block < d.blocks = block_inside d fuse h in
    let left : rest < block_fuses d = mod-lt fuse (omega arith) in
    let whole : block * block_fuses d + rest ≡ fuse = div-add-mod' fuse (block_fuses d) in
    by_cases (Lies d fuse) rest 7776
    (λ l.
    split_row 9 6 6 (omega arith) (λ column bit. Lies d fuse (record { byte = Main block (rest / 108) column; bit = bit }))
    (rest % 108) (omega arith)
    (λ column bit hc hb e. (simp tests (omega arith), omega arith)))
    (λ g.
    split_row 1 7 4 (omega arith)
    (λ column bit. Lies d fuse (record { byte = WireAnd block ((rest - 7776) / 648) ((rest - 7776) % 648 / 36) column; bit = bit }))
    ((rest - 7776) % 648 % 36) (omega arith)
    (λ column bit hc hb e. (simp tests (omega arith), omega arith)))

-- What stands at `rest` of a block.
in_block_lem : (d : Device) (block rest : ℕ) → rest < block_fuses d
    → place_of_fuse d (block * block_fuses d + rest) ≡ place_in_block block rest
unfolding place_of_fuse
in_block_lem d block rest h = rw (digits_div block h, digits_mod block h)

-- The fuse of a place that the device has is below the count, and the place is found from it.
abbrev pub Found : Device → Place → Type 0
Found d p = (fuse_of_place d p < fuse_count d) × (place_of_fuse d (fuse_of_place d p) ≡ p)

in_byte : (d : Device) (byte : BytePlace) (bit : ℕ) → has_byte d byte ≡ true → bit < width_of byte
    → Found d (record { byte = byte; bit = bit })
unfolding fuse_count
in_byte d (Main block row column) bit h hb =
    let facts = simp tests at h in
    let x = main_start column + bit in
    let short : x < 108 = in_row 9 6 6 (omega arith) column bit (omega arith) hb in
    let y = row * 108 + x in
    let less : ltb y 7776 ≡ true = lt-ltb y 7776 (omega arith) in
    let found = join_row 9 6 6 (omega arith) column bit hb in
    let sum : block * block_fuses d + (row * 108 + main_start column) + bit ≡ block * block_fuses d + y = omega arith in
    rw sum (
      digits_lt {q = block} {m = d.blocks} {r = y} {c = block_fuses d} (omega arith) (omega arith),
      in_block_lem d block y (omega arith)
          ∙ rw (less, digits_div row short, digits_mod row short, found.0, found.1),
    )
in_byte d (WireAnd block subarea row column) bit h hb =
    let facts = simp tests at h in
    let x = wire_and_start column + bit in
    let short : x < 36 = in_row 1 7 4 (omega arith) column bit (omega arith) hb in
    let y = row * 36 + x in
    let fits : y < 648 = omega arith in
    let z = 7776 + (subarea * 648 + y) in
    let past : ltb z 7776 ≡ false = le-ltb z 7776 (omega arith) in
    let back : z - 7776 ≡ subarea * 648 + y = omega arith in
    let found = join_row 1 7 4 (omega arith) column bit hb in
    let sum : block * block_fuses d + (7776 + (subarea * 648 + (row * 36 + wire_and_start column))) + bit ≡ block * block_fuses d + z =
    omega arith in
    rw sum (
      digits_lt {q = block} {m = d.blocks} {r = z} {c = block_fuses d} (omega arith) (omega arith),
      in_block_lem d block z (omega arith)
          ∙ rw (
            past,
            back,
            digits_div subarea fits,
            digits_mod subarea fits,
            digits_div row short,
            digits_mod row short,
            found.0,
            found.1,
          ),
    )

pub of_place : (d : Device) (p : Place) → has_place d p ≡ true → Found d p
unfolding has_place
of_place d p h = let facts = simp tests at h in in_byte d p.byte p.bit facts.0 facts.1

-- The byte of a place of the device is the device's.
pub has_byte_lem : (d : Device) (p : Place) → has_place d p ≡ true → has_byte d p.byte ≡ true
unfolding has_place
has_byte_lem d p h = ((and_iff _ _).0 h).0

-- The place of a fuse, by what is left of it in its block.
module _ (d : Device) (f block rest : ℕ) (e : block ≡ f / block_fuses d) (g : rest ≡ f % block_fuses d) (p : Place) where
  pub place_in_main_lem : p ≡ place_in_main block rest → rest < main_fuses → p ≡ place_of_fuse d f
  unfolding place_of_fuse
  place_in_main_lem h l = h ∙ rw (← e, ← g, lt-ltb rest main_fuses l)

  pub place_in_wire_and_lem : p ≡ place_in_wire_and block (rest - main_fuses) → main_fuses ≤ rest → p ≡ place_of_fuse d f
  unfolding place_of_fuse
  place_in_wire_and_lem h l = h ∙ rw (← e, ← g, le-ltb rest main_fuses l)
