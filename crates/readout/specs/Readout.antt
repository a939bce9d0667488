-- Readout: one byte for each valid address, in ascending order, value in the low bits, bits above the byte's width 0.
-- The two conversions between image and readout, refusals and target bytes included. Document 01, "Three pictures".
use Rattle.std.specs.Prelude.{ℕ, ◌^◌, Bool, cond, List, ltb, leb, length, get_or}
use Rattle.part.specs.Outcome.{Outcome}
use Rattle.part.specs.Outcome.Outcome.{accepted, refused}
use Rattle.part.specs.Device.{image_bytes, readout_bytes}
use Rattle.part.specs.Place.{width_of, fuse_of_place, place_of_fuse}
use Rattle.addresses.specs.Address.{index_of_byte, byte_of_index}
use Rattle.part.specs.Sizes.{if_known, if_length}
use Rattle.part.specs.Lowest.{lowest}
use Rattle.part.specs.declared.Device.{Device}
use Rattle.image.specs.Bits.{bit_at, gathered, tabulate}
use Rattle.image.specs.Image.{state, image_from}

-- The width of the byte at an index.
abbrev pub width_at : Device → ℕ → ℕ
width_at d index = width_of (byte_of_index d index)

-- The fuse of a bit of the byte at an index.
abbrev pub fuse_at : Device → (index bit : ℕ) → ℕ
fuse_at d index bit = fuse_of_place d (record { byte = byte_of_index d index; bit = bit })

-- In an image's readout, each bit b within a byte's width is the state of the fuse with that byte's address and bit b.
unfoldable pub readout_from : Device → (ℕ → ℕ) → List ℕ
readout_from d states =
    tabulate (readout_bytes d) (λ index. gathered (λ bit. states (fuse_at d index bit)) (width_at d index))

-- The readout of an image.
unfoldable pub readout_of : Device → List ℕ → List ℕ
readout_of d image = readout_from d (state image)

-- Where a readout keeps a fuse: the index of the byte with its address, and its bit there
-- (`kept_at_address` in proofs/Laws.antt).
abbrev pub index_in_readout : Device → ℕ → ℕ
index_in_readout d fuse = index_of_byte d (place_of_fuse d fuse).byte

abbrev pub bit_in_readout : Device → ℕ → ℕ
bit_in_readout d fuse = (place_of_fuse d fuse).bit

-- The state of a fuse in a readout.
unfoldable pub state_in : Device → List ℕ → ℕ → ℕ
state_in d readout fuse = bit_at readout (index_in_readout d fuse) (bit_in_readout d fuse)

-- The image of a readout: each fuse has the state that it has in the readout.
unfoldable pub image_of : Device → List ℕ → List ℕ
image_of d readout = image_from d (state_in d readout)

-- Whether the byte at an index has a bit above its width.
unfoldable pub above_at : Device → List ℕ → ℕ → Bool
above_at d readout index = leb (2 ^ width_at d index) (get_or readout index 0)

-- The lowest index of such a byte, or the number of bytes.
abbrev pub first_above : Device → List ℕ → ℕ
first_above d readout = lowest (above_at d readout) (readout_bytes d)

-- Image to readout: refusals 1, and 2 of both slices.
unfoldable pub to_readout : Device → (image target : List ℕ) → Outcome (Unit {0})
to_readout d image target =
    if_known d (if_length (length image) (image_bytes d) (if_length (length target) (readout_bytes d) (accepted tt)))

-- Readout to image: refusals 1, 2 of both slices, and 6 with the lowest index of a byte that has a bit above its width.
unfoldable pub to_image : Device → (readout target : List ℕ) → Outcome (Unit {0})
to_image d readout target =
    if_known d
    (if_length (length readout) (readout_bytes d)
    (if_length (length target) (image_bytes d)
    (cond (ltb (first_above d readout) (readout_bytes d)) (refused 6 (first_above d readout)) (accepted tt))))
