-- The largest image, and the answer to a text with the caller's image.
-- The proofs work with these definitions, and no public contract does.
use Rattle.std.specs.Prelude.{ℕ, ◌+◌, ◌*◌, ◌/◌, ◌≡◌, List}
use Rattle.part.specs.Outcome.{Outcome, written}
use Rattle.part.specs.Device.{main_fuses, subarea_fuses}
use Rattle.jedec_end.specs.Verdict.{verdict, result_of}

-- The bytes of an image of sixteen blocks.
abbrev pub largest_image : ℕ
largest_image = 16 * ((main_fuses + 16 * subarea_fuses) / 8)

-- The caller's image holds the image of the text where that is accepted, and else what it held.
pub record ReadInto (o : Outcome (List ℕ)) (answer : Outcome (Unit {0})) (before after : List ℕ) : Type 0 where
  pub answers : answer ≡ verdict o
  pub holds : after ≡ written answer (result_of o) before
