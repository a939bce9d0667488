-- Text and image turn into each other without loss, stated of the definitions that the contracts of `image_to_text` and `text_to_image`
-- cite. It stands here, where reader and writer may both be named.
use mathlib.Core.Path.{◌≡◌}
use mathlib.Core.Bool.{true}
use mathlib.Core.List.{List}
use Prim.Native.Nat.{ℕ, ◌^◌, ◌<◌}
use lib.ListN.{length, get_or}
use borrow.Author.Tests.{eq-eqb}
use Rattle.part.specs.Outcome.Outcome.{accepted}
use Rattle.part.specs.Device.{known, image_bytes}
use Rattle.part.specs.declared.Device.{Device}
use Rattle.jedec_writer.specs.Pattern.{text_of}
use Rattle.jedec_writer.proofs.Laws.{written_read}
use Rattle.jedec_reader.specs.Reader.{to_image_from_text, image_in}

pub text_inverse : (d : Device) (image target : List ℕ) → known d ≡ true → length image ≡ image_bytes d
    → ((i : ℕ) → get_or image i 0 < 2 ^ 8)
    → length target ≡ image_bytes d → (to_image_from_text d (text_of d image) target ≡ accepted tt) × (image_in d (text_of d image) ≡ image)
unfolding to_image_from_text image_in
text_inverse d image target k size bytes buffer =
    let read = written_read d image k size bytes in (rw (k, eq-eqb (length target) (image_bytes d) buffer, read), rw read)
