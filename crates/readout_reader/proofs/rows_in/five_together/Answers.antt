-- `five_together` meets its contract: the mask leaves the fields, and each is moved to its bits.
-- Assumes nothing.
use mathlib.Core.Path.{◌≡◌, refl, ◌∙◌}
use mathlib.Core.List.{[], ◌∷◌}
use Prim.Native.Nat.{ℕ, ◌+◌, ◌*◌, ◌-◌, ◌/◌, ◌%◌, ◌^◌, ◌≤◌, ◌<◌}
use native.Mathlib.Omega.{arith}
use native.Mathlib.Nat.{mod-lt, mod-one}
use lib.Bits.{bit_and}
use lib.Pow.{pow_pos}
use Rattle.part.specs.declared.Area.TheVariants.{WireAnd}
use Rattle.readout_rows.specs.Widths.{row_widths}
use Rattle.readout_reader.proofs.Fields.{fields, mask, packed, past, narrow, masked, packed_cells}
use Rattle.readout_reader.proofs.rows_in.five_together.Goals as goal

-- Five fields in bytes.
abbrev in_bytes : (a b c d e : ℕ) → ℕ
in_bytes a b c d e = ((((0 * 2 ^ 8 + e) * 2 ^ 8 + d) * 2 ^ 8 + c) * 2 ^ 8 + b) * 2 ^ 8 + a

paired : (low odd a b c d e x y z : ℕ) → low ≡ in_bytes a b c d e → odd ≡ in_bytes x y c z e → x ≡ 0 → y ≡ 0 → z ≡ 0
    → (odd / 2 ^ 1 ≤ low) × (low - odd / 2 ^ 1 ≡ a + b * 2 ^ 8 + c * 2 ^ 15 + (d + e * 2 ^ 7) * 2 ^ 24)
paired low odd a b c d e x y z g h ex ey ez =
    let half : odd / 2 ^ 1 ≡ c * 2 ^ 15 + e * 2 ^ 31 = omega arith in
    rw half (omega arith, omega arith)

-- What is below is moved up, and then all is moved down.
joined : (p a b : ℕ) → a < 2 ^ 22 → p ≡ a + b * 2 ^ 24 → (p + p % 16777216 * 3) / 2 ^ 2 ≡ a + b * 2 ^ 22
joined p a b ha e =
    let one : p % 16777216 ≡ a = omega arith in
    rw one (omega arith)

flat : (a b c d e : ℕ)
    → a + b * 2 ^ 8 + c * 2 ^ 15 + (d + e * 2 ^ 7) * 2 ^ 22 ≡ ((((0 * 2 ^ 7 + e) * 2 ^ 7 + d) * 2 ^ 7 + c) * 2 ^ 7 + b) * 2 ^ 8 + a
flat a b c d e = omega arith

small : (a b c : ℕ) → a < 2 ^ 8 → b < 2 ^ 7 → c < 2 ^ 7 → a + b * 2 ^ 8 + c * 2 ^ 15 < 2 ^ 22
small a b c ha hb hc = omega arith

of_word : (w : ℕ)
    → (bit_and w 0x7F007F0000 / 2 ^ 1 ≤ bit_and w 0x7F7F7F7FFF)
    × (bit_and w 0x7F7F7F7FFF - bit_and w 0x7F007F0000 / 2 ^ 1
    ≡ past w 0 % 2 ^ 8 + past w 1 % 2 ^ 7 * 2 ^ 8 + past w 2 % 2 ^ 7 * 2 ^ 15 + (past w 3 % 2 ^ 7 + past w 4 % 2 ^ 7 * 2 ^ 7) * 2 ^ 24)
unfolding fields mask narrow row_widths
of_word w =
    paired (bit_and w 0x7F7F7F7FFF) (bit_and w 0x7F007F0000) (past w 0 % 2 ^ 8) (past w 1 % 2 ^ 7) (past w 2 % 2 ^ 7) (past w 3 % 2 ^ 7)
    (past w 4 % 2 ^ 7) (past w 0 % 2 ^ 0) (past w 1 % 2 ^ 0) (past w 3 % 2 ^ 0)
    (masked (row_widths WireAnd) w refl) (masked (0 ∷ 0 ∷ 7 ∷ 0 ∷ 7 ∷ []) w refl) (mod-one (past w 0))
    (mod-one (past w 1)) (mod-one (past w 3))

pub overflow_sub-pairs : goal.overflow_sub-pairs
overflow_sub-pairs c = (of_word c.args.word).0

pub returns : goal.returns
unfolding packed narrow row_widths
returns c =
    let w = c.args.word in
    let below : (x : ℕ) → x % 2 ^ 7 < 2 ^ 7 = λ x. mod-lt x (pow_pos 7) in
    joined (bit_and w 0x7F7F7F7FFF - bit_and w 0x7F007F0000 / 2 ^ 1)
    (past w 0 % 2 ^ 8 + past w 1 % 2 ^ 7 * 2 ^ 8 + past w 2 % 2 ^ 7 * 2 ^ 15)
    (past w 3 % 2 ^ 7 + past w 4 % 2 ^ 7 * 2 ^ 7)
    (small (past w 0 % 2 ^ 8) (past w 1 % 2 ^ 7) (past w 2 % 2 ^ 7) (mod-lt w (pow_pos 8)) (below (past w 1)) (below (past w 2)))
    (of_word w).1
    ∙ flat (past w 0 % 2 ^ 8) (past w 1 % 2 ^ 7) (past w 2 % 2 ^ 7) (past w 3 % 2 ^ 7) (past w 4 % 2 ^ 7)
    ∙ packed_cells (row_widths WireAnd) w refl
