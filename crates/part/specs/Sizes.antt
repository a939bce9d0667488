-- The sizes of a device, and the refusals that several operations share: 1 for an unknown device, 2 for an image or a
-- readout that has not the exact length, 12 for a buffer that is too short.
use Rattle.std.specs.Prelude.{ℕ, cond, List, ◌++◌, eqb, ltb, length, drop}
use Rattle.part.specs.Outcome.{Outcome}
use Rattle.part.specs.Outcome.Outcome.{accepted, refused}
use Rattle.part.specs.Device.{known, fuse_count, image_bytes, readout_bytes, text_bytes}
use Rattle.part.specs.declared.Device.{Device}
use Rattle.part.specs.declared.Sizes.{Sizes}

-- Refusal 1 exactly for an unknown device.
abbrev pub if_known : {A : Type 0} → Device → Outcome A → Outcome A
if_known d answer = cond (known d) answer (refused 1 0)

-- Refusal 2 exactly where an image or a readout has not the exact length.
abbrev pub if_length : {A : Type 0} → (bytes exact : ℕ) → Outcome A → Outcome A
if_length bytes exact answer = cond (eqb bytes exact) answer (refused 2 0)

-- Some bytes put at the start of a buffer: how many they are, or refusal 12 with the bytes needed; what the buffer then
-- holds.
abbrev pub bytes_put : (bytes buffer : List ℕ) → Outcome ℕ
bytes_put bytes buffer = cond (ltb (length buffer) (length bytes)) (refused 12 (length bytes)) (accepted (length bytes))

abbrev pub at_start : (bytes buffer : List ℕ) → List ℕ
at_start bytes buffer = bytes ++ drop (length bytes) buffer

-- The sizes of a device.
unfoldable pub sizes_of : Device → Outcome Sizes
sizes_of d =
    if_known d
    (accepted (record {
      fuses = fuse_count d;
      image_bytes = image_bytes d;
      readout_bytes = readout_bytes d;
      text_bytes = text_bytes d;
    }))
