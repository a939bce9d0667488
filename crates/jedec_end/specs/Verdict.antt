-- What a text means, in two parts: what is answered, and the image.
-- The public contract of text to image rests on these.
use Rattle.std.specs.Prelude.{ℕ, List, []}
use Rattle.part.specs.Outcome.{Outcome}
use Rattle.part.specs.Outcome.Outcome.{accepted, refused}

-- What is answered, without the image.
abbrev pub verdict : Outcome (List ℕ) → Outcome (Unit {0})
verdict (accepted image) = accepted tt
verdict (refused number value) = refused number value

-- The image, where there is one.
abbrev pub result_of : Outcome (List ℕ) → List ℕ
result_of (accepted image) = image
result_of (refused number value) = []
