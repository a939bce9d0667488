-- Text to image: what a call answers, refusals 1, 2, 7, 8, 9, 13, 10 and 11 in this order, and the image put in place.
-- What a text means is defined in crate `jedec`.
use Rattle.std.specs.Prelude.{ℕ, List, length}
use Rattle.part.specs.Outcome.{Outcome}
use Rattle.part.specs.Device.{fuse_count, image_bytes}
use Rattle.part.specs.Sizes.{if_known, if_length}
use Rattle.part.specs.declared.Device.{Device}
use Rattle.jedec.specs.Meaning.{meaning}
pub use Rattle.jedec_end.specs.Verdict.{verdict, result_of}

-- What a call answers: 1, 2, and then what the text means.
unfoldable pub to_image_from_text : Device → (text target : List ℕ) → Outcome (Unit {0})
to_image_from_text d text target =
    if_known d (if_length (length target) (image_bytes d) (verdict (meaning (fuse_count d) text)))

-- The image that a text describes for a device.
unfoldable pub image_in : Device → (text : List ℕ) → List ℕ
image_in d text = result_of (meaning (fuse_count d) text)
