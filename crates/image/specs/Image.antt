-- Image: one bit a fuse; fuse f is bit f mod 8 (bit 0 lowest) of byte f div 8. The fuse sum and the zero count over it.
-- Document 01, "Three pictures of one part" and "Reading and writing the text".
use Rattle.std.specs.Prelude.{ℕ, zero, suc, ◌+◌, ◌-◌, ◌*◌, ◌/◌, ◌%◌, ◌^◌, List, [], ◌∷◌, length}
use Rattle.part.specs.Outcome.{Outcome}
use Rattle.part.specs.Outcome.Outcome.{accepted}
use Rattle.part.specs.Device.{fuse_count, image_bytes}
use Rattle.part.specs.Sizes.{if_known, if_length}
use Rattle.part.specs.declared.Device.{Device}
use Rattle.image.specs.Bits.{bit_at, with_bit, gathered, tabulate}

-- The state of a fuse.
unfoldable pub state : List ℕ → ℕ → ℕ
state image fuse = bit_at image (fuse / 8) (fuse % 8)

-- The image with the state of one fuse changed.
abbrev pub with_fuse : List ℕ → (fuse s : ℕ) → List ℕ
with_fuse image fuse s = with_bit image (fuse / 8) (fuse % 8) s

-- The image in which each fuse has the state given.
unfoldable pub image_from : Device → (ℕ → ℕ) → List ℕ
image_from d states = tabulate (image_bytes d) (λ index. gathered (λ bit. states (index * 8 + bit)) 8)

-- Image bytes are summed as unsigned bytes and only the low 16 bits kept.
unfoldable pub byte_sum : List ℕ → ℕ
byte_sum [] = 0
byte_sum (b ∷ bytes) = b + byte_sum bytes

unfoldable pub sum16 : List ℕ → ℕ
sum16 bytes = byte_sum bytes % 2 ^ 16

-- The zero count is the number of fuses at 0.
unfoldable pub zeros_below : List ℕ → ℕ → ℕ
zeros_below image zero = 0
zeros_below image (suc fuse) = zeros_below image fuse + (1 - state image fuse)

unfoldable pub fuse_sum : Device → List ℕ → Outcome ℕ
fuse_sum d image = if_known d (if_length (length image) (image_bytes d) (accepted (sum16 image)))

unfoldable pub zero_count : Device → List ℕ → Outcome ℕ
zero_count d image = if_known d (if_length (length image) (image_bytes d) (accepted (zeros_below image (fuse_count d))))
