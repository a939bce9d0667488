-- The bytes of a readout: their addresses are valid, ascend, and are all the valid addresses of the device.
-- Stated once for every block count.
use mathlib.Core.Path.{◌≡◌, refl, ◌∙◌, ap}
use mathlib.Core.Bool.{Bool, true, false, cond}
use Prim.Native.Nat.{ℕ, ◌+◌, ◌*◌, ◌-◌, ◌/◌, ◌%◌, ◌<◌}
use native.Mathlib.Omega.{arith}
use native.Mathlib.Nat.{div-lt_iff_lt-mul, div-add-mod', mod-lt, mul-le-mul_right, suc-mul}
use lib.Arith.{digits_div, digits_mod, digits_lt}
use lib.Dec.{ltb}
use borrow.Author.Tests.{lt-ltb, le-ltb}
use Rattle.part.specs.Device.{known, readout_bytes, block_bytes, main_bytes, subarea_bytes}
use Rattle.part.specs.Place.{has_byte}
use Rattle.addresses.specs.Address.{index_of_byte, byte_of_index, byte_in_block, address_of_byte, valid}
use Rattle.part.specs.declared.Device.{Device}
use Rattle.part.specs.declared.BytePlace.{BytePlace}
use Rattle.part.specs.declared.BytePlace.TheVariants.{Main, WireAnd}
use Rattle.part.proofs.Facts.{compared, by_cases, tests}
use Rattle.part.proofs.Devices.{blocks_small}
use Rattle.addresses.proofs.ByteAddresses.{valid_iff}

-- The byte at an index is one of the device, and has that index.
abbrev pub Stands : Device → ℕ → BytePlace → Type 0
Stands d index byte = (has_byte d byte ≡ true) × (index_of_byte d byte ≡ index)

pub at_index : (d : Device) (index : ℕ) → index < readout_bytes d → Stands d index (byte_of_index d index)
unfolding byte_of_index readout_bytes
at_index d index h =
    let block = index / block_bytes d in
    let rest = index % block_bytes d in
    let inside : block < d.blocks = (div-lt_iff_lt-mul {k = block_bytes d} {x = index} {y = d.blocks} (omega arith)).1 h in
    let left : rest < block_bytes d = mod-lt index (omega arith) in
    let whole : block * block_bytes d + rest ≡ index = div-add-mod' index (block_bytes d) in
    by_cases (Stands d index) rest 1080
    (λ l. (simp tests (omega arith), omega arith))
    (λ g. (simp tests (omega arith), omega arith))

-- The index of a byte of the device is below the number of bytes, and the byte is found from it.
abbrev pub Indexed : Device → BytePlace → Type 0
Indexed d byte = (index_of_byte d byte < readout_bytes d) × (byte_of_index d (index_of_byte d byte) ≡ byte)

in_block_lem : (d : Device) (block rest : ℕ) → rest < block_bytes d
    → byte_of_index d (block * block_bytes d + rest) ≡ byte_in_block block rest
unfolding byte_of_index
in_block_lem d block rest h = rw (digits_div block h, digits_mod block h)

pub of_byte : (d : Device) (byte : BytePlace) → has_byte d byte ≡ true → Indexed d byte
unfolding readout_bytes
of_byte d (Main block row column) h =
    let facts = simp tests at h in
    let y = row * 15 + column in
    let short : column < 15 = omega arith in
    let less : ltb y 1080 ≡ true = lt-ltb y 1080 (omega arith) in (
      digits_lt {q = block} {m = d.blocks} {r = y} {c = block_bytes d} (omega arith) (omega arith),
      in_block_lem d block y (omega arith) ∙ rw (less, digits_div row short, digits_mod row short),
    )
of_byte d (WireAnd block subarea row column) h =
    let facts = simp tests at h in
    let short : column < 5 = omega arith in
    let y = row * 5 + column in
    let fits : y < 90 = omega arith in
    let z = 1080 + (subarea * 90 + y) in
    let past : ltb z 1080 ≡ false = le-ltb z 1080 (omega arith) in
    let back : z - 1080 ≡ subarea * 90 + y = omega arith in (
      digits_lt {q = block} {m = d.blocks} {r = z} {c = block_bytes d} (omega arith) (omega arith),
      in_block_lem d block z (omega arith)
          ∙ rw (past, back, digits_div subarea fits, digits_mod subarea fits, digits_div row short, digits_mod row short),
    )

-- Numbers of two digits stand in the same order at any radix that holds the low digits, if those stand in the same order.
same_order : (q q' : ℕ) {s s' t t' : ℕ} (c d : ℕ) → s < c → s' < c → t < d → t' < d → (s < s' → t < t')
    → q * c + s < q' * c + s' → q * d + t < q' * d + t'
same_order q q' c d hs hs' ht ht' low h =
    compared q q'
    (λ less. omega (arith, mul-le-mul_right d less, suc-mul q d))
    (λ more.
    compared q' q
    (λ less. omega (arith, mul-le-mul_right c less, suc-mul q' c))
    (λ back.
    let same : q ≡ q' = omega arith in
    let high : q * c ≡ q' * c = ap (λ (x : ℕ). x * c) same in
    let high' : q * d ≡ q' * d = ap (λ (x : ℕ). x * d) same in
    let less : _ < _ = low (omega arith) in
    omega arith))

-- The address of a byte less that of its block: in the main area, in the wire-AND area, in both.
abbrev in_main : ℕ → ℕ
in_main rest = rest / 15 * 32 + (rest % 15 / 5 * 8 + rest % 15 % 5)

abbrev in_wire_and : ℕ → ℕ
in_wire_and rest = rest / 90 * 256 + (rest % 90 / 5 * 8 + rest % 90 % 5)

abbrev inside : ℕ → ℕ
inside rest = cond (ltb rest 1080) (in_main rest) (4096 + in_wire_and (rest - 1080))

address_of_lem : (block rest : ℕ) → address_of_byte (byte_in_block block rest) ≡ block * 8192 + inside rest
address_of_lem block rest = go (ltb rest 1080)
  where
    go : (t : Bool) → address_of_byte (cond t (Main block (rest / 15) (rest % 15))
        (WireAnd block ((rest - 1080) / 90) ((rest - 1080) % 90 / 5) ((rest - 1080) % 90 % 5)))
        ≡ block * 8192 + cond t (in_main rest) (4096 + in_wire_and (rest - 1080))
    go true = omega arith
    go false = omega arith

-- Columns of five and eight.
by_five : (s s' : ℕ) → s < s' → s / 5 * 8 + s % 5 < s' / 5 * 8 + s' % 5
by_five s s' h = same_order (s / 5) (s' / 5) 5 8 (omega arith) (omega arith) (omega arith) (omega arith) (λ l. l) (omega arith)

main_order : (s s' : ℕ) → s < s' → in_main s < in_main s'
main_order s s' h =
    same_order (s / 15) (s' / 15) 15 32 (omega arith) (omega arith) (omega arith) (omega arith) (by_five (s % 15) (s' % 15)) (omega arith)

wire_and_order : (s s' : ℕ) → s < s' → in_wire_and s < in_wire_and s'
wire_and_order s s' h =
    same_order (s / 90) (s' / 90) 90 256 (omega arith) (omega arith) (omega arith) (omega arith) (by_five (s % 90) (s' % 90)) (omega arith)

main_small : (s : ℕ) → s < 1080 → in_main s < 4096
main_small s h = omega arith

wire_and_small : (s : ℕ) → s < 16 * 90 → in_wire_and s < 4096
wire_and_small s h = omega arith

inside_order : (s s' : ℕ) → s < s' → inside s < inside s'
inside_order s s' h =
    by_cases (λ x. x < inside s') s 1080
    (λ l.
    by_cases (λ x. in_main s < x) s' 1080 (λ l'. main_order s s' h) (λ g'. omega (arith, main_small s l)))
    (λ g.
    by_cases (λ x. 4096 + in_wire_and (s - 1080) < x) s' 1080 (λ l'. omega arith)
    (λ g'. omega (arith, wire_and_order (s - 1080) (s' - 1080) (omega arith))))

inside_small : (s : ℕ) → s < main_bytes + 16 * subarea_bytes → inside s < 8192
inside_small s h =
    by_cases (λ x. x < 8192) s 1080 (λ l. omega (arith, main_small s l)) (λ g. omega (arith, wire_and_small (s - 1080) (omega arith)))

-- The addresses of the bytes ascend.
pub ascending : (d : Device) → known d ≡ true → (i j : ℕ) → i < j
    → address_of_byte (byte_of_index d i) < address_of_byte (byte_of_index d j)
unfolding byte_of_index
ascending d k i j h =
    let small = blocks_small d k in
    let B = block_bytes d in
    let hi : i % B < B = mod-lt i (omega arith) in
    let hj : j % B < B = mod-lt j (omega arith) in
    rw (address_of_lem (i / B) (i % B), address_of_lem (j / B) (j % B))
    (same_order (i / B) (j / B) B 8192 hi hj
    (inside_small (i % B) (omega arith))
    (inside_small (j % B) (omega arith))
    (inside_order (i % B) (j % B))
    (omega (arith, div-add-mod' i B, div-add-mod' j B)))

-- Each is valid.
pub each_valid : (d : Device) → known d ≡ true → (index : ℕ) → index < readout_bytes d
    → valid d (address_of_byte (byte_of_index d index)) ≡ true
each_valid d k index h = (valid_iff d k (address_of_byte (byte_of_index d index))).1 (byte_of_index d index, (at_index d index h).0, refl)

-- No valid address is left out.
pub none_left_out : (d : Device) → known d ≡ true → (address : ℕ) → valid d address ≡ true
    → (index : ℕ) × (index < readout_bytes d) × (address_of_byte (byte_of_index d index) ≡ address)
none_left_out d k address v =
    let b = (valid_iff d k address).0 v in
    let i = of_byte d b.0 b.1 in
    (index_of_byte d b.0, i.0, ap address_of_byte i.1 ∙ b.2)
