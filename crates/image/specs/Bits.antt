-- The bits of a list of bytes, image or readout alike: reading one, changing one, and a byte gathered from its bits.
-- Assumes nothing.
use Rattle.std.specs.Prelude.{ℕ, zero, suc, ◌+◌, ◌*◌, ◌/◌, ◌%◌, ◌^◌, List, [], ◌∷◌, ◌++◌, count_ones, slice_index, slice_set}

-- A bit of a number, bit 0 lowest.
abbrev pub bit_of : ℕ → ℕ → ℕ
bit_of x bit = x / 2 ^ bit % 2

-- A bit of a byte of a list.
unfoldable pub bit_at : List ℕ → (index bit : ℕ) → ℕ
bit_at bytes index bit = bit_of (slice_index bytes index) bit

-- A number with one bit put in place: the bits above it, the new state, the bits below it.
unfoldable pub put_bit : ℕ → (bit state : ℕ) → ℕ
put_bit x bit state = (x / 2 ^ bit / 2 * 2 + state) * 2 ^ bit + x % 2 ^ bit

-- A number with some neighbouring bits put in place: the bits above them, their states, the bits below them.
unfoldable pub put_bits : ℕ → (bit width states : ℕ) → ℕ
put_bits x bit width states = (x / 2 ^ bit / 2 ^ width * 2 ^ width + states) * 2 ^ bit + x % 2 ^ bit

-- A list with one bit of one byte put in place.
unfoldable pub with_bit : List ℕ → (index bit state : ℕ) → List ℕ
with_bit bytes index bit state = slice_set bytes index (put_bit (slice_index bytes index) bit state)

-- The number whose lowest `width` bits are those given, and which has no other.
unfoldable pub gathered : (ℕ → ℕ) → (width : ℕ) → ℕ
gathered bits zero = 0
gathered bits (suc width) = gathered bits width + bits width * 2 ^ width

-- The list of n numbers, by index.
unfoldable pub tabulate : ℕ → (ℕ → ℕ) → List ℕ
tabulate zero f = []
tabulate (suc n) f = tabulate n f ++ (f n ∷ [])

-- The ones among the bits of the bytes of a list.
unfoldable pub ones_in : List ℕ → ℕ
ones_in [] = 0
ones_in (b ∷ bytes) = count_ones (b % 2 ^ 8) + ones_in bytes
