-- `six_together` meets its contract: the mask leaves the fields, and each is moved to its bits.
-- Assumes nothing.
use mathlib.Core.Path.{◌≡◌, refl, ◌∙◌}
use mathlib.Core.List.{[], ◌∷◌}
use Prim.Native.Nat.{ℕ, ◌+◌, ◌*◌, ◌-◌, ◌/◌, ◌%◌, ◌^◌, ◌≤◌, ◌<◌}
use native.Mathlib.Omega.{arith}
use native.Mathlib.Nat.{mod-lt, mod-one}
use lib.Bits.{bit_and}
use lib.ListN.{replicate}
use lib.Pow.{pow_pos}
use Rattle.readout_reader.proofs.Fields.{fields, mask, packed, past, narrow, masked, packed_cells}
use Rattle.readout_reader.proofs.rows_in.six_together.Goals as goal

-- Six fields in bytes.
abbrev in_bytes : (a b c d e f : ℕ) → ℕ
in_bytes a b c d e f = (((((0 * 2 ^ 8 + f) * 2 ^ 8 + e) * 2 ^ 8 + d) * 2 ^ 8 + c) * 2 ^ 8 + b) * 2 ^ 8 + a

paired : (low odd a b c d e f x y z : ℕ) → low ≡ in_bytes a b c d e f → odd ≡ in_bytes x b y d z f → x ≡ 0 → y ≡ 0 → z ≡ 0
    → (odd / 2 ^ 2 * 3 ≤ low) × (low - odd / 2 ^ 2 * 3 ≡ a + b * 2 ^ 6 + (c + d * 2 ^ 6) * 2 ^ 16 + (e + f * 2 ^ 6) * 2 ^ 32)
paired low odd a b c d e f x y z g h ex ey ez =
    let quarter : odd / 2 ^ 2 ≡ b * 2 ^ 6 + d * 2 ^ 22 + f * 2 ^ 38 = omega arith in
    rw quarter (omega arith, omega arith)

-- Of three pairs the lowest is moved up, then the lower two, and then all is moved down.
joined : (p a b c : ℕ) → a < 2 ^ 12 → b < 2 ^ 12 → p ≡ a + b * 2 ^ 16 + c * 2 ^ 32
    → (p + p % 65536 * 15 + (p + p % 65536 * 15) % 4294967296 * 15) / 2 ^ 8 ≡ a + b * 2 ^ 12 + c * 2 ^ 24
joined p a b c ha hb e =
    let one : p % 65536 ≡ a = omega arith in
    let up : p + a * 15 ≡ a * 2 ^ 4 + b * 2 ^ 16 + c * 2 ^ 32 = omega arith in
    rw (one, up) (above a b c ha hb)
  where
    above : (a b c : ℕ) → a < 2 ^ 12 → b < 2 ^ 12
        → (a * 2 ^ 4 + b * 2 ^ 16 + c * 2 ^ 32 + (a * 2 ^ 4 + b * 2 ^ 16 + c * 2 ^ 32) % 4294967296 * 15) / 2 ^ 8
        ≡ a + b * 2 ^ 12 + c * 2 ^ 24
    above a b c ha hb =
        let two : (a * 2 ^ 4 + b * 2 ^ 16 + c * 2 ^ 32) % 4294967296 ≡ a * 2 ^ 4 + b * 2 ^ 16 = omega arith in
        rw two (omega arith)

flat : (a b c d e f : ℕ) → a + b * 2 ^ 6 + (c + d * 2 ^ 6) * 2 ^ 12 + (e + f * 2 ^ 6) * 2 ^ 24
    ≡ (((((0 * 2 ^ 6 + f) * 2 ^ 6 + e) * 2 ^ 6 + d) * 2 ^ 6 + c) * 2 ^ 6 + b) * 2 ^ 6 + a
flat a b c d e f = omega arith

pair_small : (a b : ℕ) → a < 2 ^ 6 → b < 2 ^ 6 → a + b * 2 ^ 6 < 2 ^ 12
pair_small a b ha hb = omega arith

of_word : (w : ℕ)
    → (bit_and w 0x3F003F003F00 / 2 ^ 2 * 3 ≤ bit_and w 0x3F3F3F3F3F3F)
    × (bit_and w 0x3F3F3F3F3F3F - bit_and w 0x3F003F003F00 / 2 ^ 2 * 3
    ≡ past w 0 % 2 ^ 6 + past w 1 % 2 ^ 6 * 2 ^ 6 + (past w 2 % 2 ^ 6 + past w 3 % 2 ^ 6 * 2 ^ 6) * 2 ^ 16
    + (past w 4 % 2 ^ 6 + past w 5 % 2 ^ 6 * 2 ^ 6) * 2 ^ 32)
unfolding fields mask narrow
of_word w =
    paired (bit_and w 0x3F3F3F3F3F3F) (bit_and w 0x3F003F003F00) (past w 0 % 2 ^ 6) (past w 1 % 2 ^ 6) (past w 2 % 2 ^ 6) (past w 3 % 2 ^ 6)
    (past w 4 % 2 ^ 6) (past w 5 % 2 ^ 6) (past w 0 % 2 ^ 0) (past w 2 % 2 ^ 0) (past w 4 % 2 ^ 0)
    (masked (replicate 6 6) w refl) (masked (0 ∷ 6 ∷ 0 ∷ 6 ∷ 0 ∷ 6 ∷ []) w refl) (mod-one (past w 0))
    (mod-one (past w 2)) (mod-one (past w 4))

pub overflow_sub-pairs : goal.overflow_sub-pairs
overflow_sub-pairs c = (of_word c.args.word).0

pub returns : goal.returns
unfolding packed narrow
returns c =
    let w = c.args.word in
    let below : (x : ℕ) → x % 2 ^ 6 < 2 ^ 6 = λ x. mod-lt x (pow_pos 6) in
    joined (bit_and w 0x3F3F3F3F3F3F - bit_and w 0x3F003F003F00 / 2 ^ 2 * 3) (past w 0 % 2 ^ 6 + past w 1 % 2 ^ 6 * 2 ^ 6)
    (past w 2 % 2 ^ 6 + past w 3 % 2 ^ 6 * 2 ^ 6) (past w 4 % 2 ^ 6 + past w 5 % 2 ^ 6 * 2 ^ 6)
    (pair_small (past w 0 % 2 ^ 6) (past w 1 % 2 ^ 6) (below (past w 0)) (below (past w 1)))
    (pair_small (past w 2 % 2 ^ 6) (past w 3 % 2 ^ 6) (below (past w 2)) (below (past w 3))) (of_word w).1
    ∙ flat (past w 0 % 2 ^ 6) (past w 1 % 2 ^ 6) (past w 2 % 2 ^ 6) (past w 3 % 2 ^ 6) (past w 4 % 2 ^ 6) (past w 5 % 2 ^ 6)
    ∙ packed_cells (replicate 6 6) w refl
