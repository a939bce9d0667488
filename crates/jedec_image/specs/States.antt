-- States put into an image one after another from a fuse on, and what a field puts into an image.
-- `put_listed` in proofs/ListedImages.antt says that this is what an L field gives.
use Rattle.std.specs.Prelude.{ℕ, ◌+◌, ◌≤◌, ◌<◌, ◌≡◌, List, [], ◌∷◌, drop, Option, Some, None}
use Rattle.image.specs.Image.{with_fuse}
use Rattle.jedec.specs.Rules.{state_given, image_with}
use Rattle.jedec_judge.specs.Judged.{states_of, ListFits}
use Rattle.jedec_judge.specs.declared.FieldSays.{FieldSays}
use Rattle.jedec_judge.specs.declared.FieldSays.TheVariants as says
use Rattle.jedec_judge.specs.declared.FuseList.{FuseList}

-- The image with states put in place.
unfoldable pub with_states : (image : List ℕ) → (fuse : ℕ) → (states : List ℕ) → List ℕ
with_states image fuse [] = image
with_states image fuse (s ∷ states) = with_states (with_fuse image fuse s) (fuse + 1) states

-- What an L field puts into the image, and what any field does.
abbrev pub put_list : (after : List ℕ) → FuseList → Option ℕ → List ℕ → List ℕ
put_list after l None image = with_states image l.first (states_of (drop l.skip after))
put_list after l (Some x) image = image

abbrev pub put_field : (fuses : ℕ) → (after : List ℕ) → FieldSays → Option ℕ → List ℕ → List ℕ
put_field fuses after (says.Count n) m image = image
put_field fuses after (says.Start s) m image = image_with fuses (state_given s [])
put_field fuses after (says.List l) m image = put_list after l m image
put_field fuses after (says.Sum x) m image = image
put_field fuses after says.Skipped m image = image
put_field fuses after says.Bad m image = image

-- The states of an L field are there, and the fuses from its first on are below the count.
pub record ListGoesIn (fuses : ℕ) (after : List ℕ) (l : FuseList) : Type 0 where
  pub list : ListFits after l
  pub fits : l.first + l.count ≤ fuses

abbrev pub PutFits : (fuses : ℕ) → (after : List ℕ) → FieldSays → Option ℕ → Type 0
PutFits fuses after (says.Count n) m = Unit {0}
PutFits fuses after (says.Start s) m = s < 2
PutFits fuses after (says.List l) m = m ≡ None → ListGoesIn fuses after l
PutFits fuses after (says.Sum x) m = Unit {0}
PutFits fuses after says.Skipped m = Unit {0}
PutFits fuses after says.Bad m = Unit {0}
