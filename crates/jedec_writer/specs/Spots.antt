-- What the functions of the writer promise each other: lines put from a spot on, and where the next one then begins.
-- Assumes nothing.
use Rattle.std.specs.Prelude.{ℕ, ◌+◌, ◌*◌, ◌≤◌, ◌≡◌, List, length}
use Rattle.std.proofs.lemmas.List.Edits.{sets}
use Rattle.jedec.specs.WrittenText.{lines_text, pattern_fuses}
use Rattle.jedec_writer.specs.Pattern.{lines_bytes}
use Rattle.jedec_writer.specs.declared.text.Spot.{Spot}

-- An image of at least a word, with fuse numbers of six digits; it has the fuses of some lines from a spot on, and the
-- text has space for them.
pub record Room (lines : List (List ℕ)) (image : List ℕ) (from : Spot) (out : List ℕ) : Type 0 where
  pub word : 8 ≤ length image
  pub few : length image ≤ 125000
  pub fuses : from.fuse + pattern_fuses lines ≤ length image * 8
  pub bytes : from.at + lines_bytes lines ≤ length out

-- The lines are stored, and the next spot is behind their fuses and behind their bytes.
pub record Lined (lines : List (List ℕ)) (image before after : List ℕ) (from next : Spot) : Type 0 where
  pub stored : after ≡ sets before from.at (lines_text image from.fuse lines)
  pub fuse_on : next.fuse ≡ from.fuse + pattern_fuses lines
  pub byte_on : next.at ≡ from.at + lines_bytes lines
