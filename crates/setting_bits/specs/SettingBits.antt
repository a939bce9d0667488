-- The bits of a setting in an image or a readout: where a fuse stands, the states that stand there as a pattern,
-- a pattern put there, and the lowest byte that has a bit above its width (document 01, refusal 6).
use Rattle.std.specs.Prelude.{ℕ, zero, suc, ◌/◌, ◌%◌, Bool, true, false, cond, ◌&&◌, List, ltb, Option, Some, None}
use Rattle.part.specs.Device.{image_bytes, readout_bytes}
use Rattle.part.specs.declared.Device.{Device}
use Rattle.image.specs.Bits.{bit_of, bit_at, with_bit, gathered}
use Rattle.readout.specs.Readout.{index_in_readout, bit_in_readout, above_at}
use Rattle.settings.specs.declared.Setting.{Setting}
use Rattle.setting_places.specs.Places.{bits_of, fuse_of}
use Rattle.setting_bits.specs.declared.Layout.{Layout}
use Rattle.setting_bits.specs.declared.Layout.TheVariants.{Image, Readout}

-- The exact length of an image or a readout.
abbrev pub bytes_of : Device → Layout → ℕ
bytes_of d Image = image_bytes d
bytes_of d Readout = readout_bytes d

-- Whether bytes may have bits above their width.
abbrev pub is_readout : Layout → Bool
is_readout Image = false
is_readout Readout = true

-- The byte and the bit of a fuse: in an image byte f div 8 and bit f mod 8; in a readout the byte
-- with its address and its bit there.
abbrev pub byte_of : Device → Layout → ℕ → ℕ
byte_of d Image fuse = fuse / 8
byte_of d Readout fuse = index_in_readout d fuse

abbrev pub bit_in : Device → Layout → ℕ → ℕ
bit_in d Image fuse = fuse % 8
bit_in d Readout fuse = bit_in_readout d fuse

-- The state of a fuse, and a change of it.
abbrev pub state_of : Device → Layout → List ℕ → ℕ → ℕ
state_of d layout bytes fuse = bit_at bytes (byte_of d layout fuse) (bit_in d layout fuse)

abbrev pub with_state : Device → Layout → List ℕ → (fuse s : ℕ) → List ℕ
with_state d layout bytes fuse s = with_bit bytes (byte_of d layout fuse) (bit_in d layout fuse) s

-- Reading: the states of the setting's fuses, lowest bit first, as a pattern.
unfoldable pub pattern_at : Device → Layout → List ℕ → Setting → ℕ
pattern_at d layout bytes s = gathered (λ bit. state_of d layout bytes (fuse_of d s bit)) (bits_of s)

-- Setting: the states that the pattern needs are put there, one fuse after the other.
unfoldable pub with_bits : Device → Layout → List ℕ → Setting → (pattern width : ℕ) → List ℕ
with_bits d layout bytes s pattern zero = bytes
with_bits d layout bytes s pattern (suc bit) =
    with_state d layout (with_bits d layout bytes s pattern bit) (fuse_of d s bit) (bit_of pattern bit)

unfoldable pub with_pattern : Device → Layout → List ℕ → Setting → ℕ → List ℕ
with_pattern d layout bytes s pattern = with_bits d layout bytes s pattern (bits_of s)

-- The lowest index of a readout byte that holds one of the setting's first bits and has a bit
-- above its width, or the length.
unfoldable pub above_among : Device → List ℕ → Setting → (width : ℕ) → ℕ
above_among d readout s zero = readout_bytes d
above_among d readout s (suc bit) =
    cond
    (above_at d readout (byte_of d Readout (fuse_of d s bit))
    && ltb (byte_of d Readout (fuse_of d s bit)) (above_among d readout s bit))
    (byte_of d Readout (fuse_of d s bit))
    (above_among d readout s bit)

abbrev pub above_of : Device → List ℕ → Setting → ℕ
above_of d readout s = above_among d readout s (bits_of s)

-- An index below a length as an answer of the code: none where it is the length.
abbrev pub below : (size index : ℕ) → Option ℕ
below size index = cond (ltb index size) (Some index) None
