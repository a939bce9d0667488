-- A field that is put into an image keeps its length.
-- Assumes nothing.
use mathlib.Core.Path.{◌≡◌, refl, sym, ◌∙◌}
use mathlib.Core.List.{List, [], ◌∷◌}
use Prim.Native.Nat.{ℕ, ◌+◌, ◌/◌}
use lib.ListN.{length, drop, length-set}
use Rattle.image.specs.Bits.{with_bit}
use Rattle.image.specs.Image.{with_fuse}
use Rattle.jedec.specs.Rules.{state_given}
use Rattle.jedec.proofs.States.{image_length}
use Rattle.jedec_judge.specs.Judged.{states_of}
use Rattle.jedec_judge.specs.declared.FieldSays.{FieldSays}
use Rattle.jedec_judge.specs.declared.FieldSays.TheVariants as says
use Rattle.std.specs.Prelude.{Option, Some, None}
use Rattle.jedec_image.specs.States.{with_states, put_field}

put_states_length : (states image : List ℕ) (fuse : ℕ) → length (with_states image fuse states) ≡ length image
unfolding with_states with_bit
put_states_length [] image fuse = refl
put_states_length (s ∷ states) image fuse =
    put_states_length states (with_fuse image fuse s) (fuse + 1) ∙ length-set image (fuse / 8) _

pub put_length : (fuses : ℕ) (rest : List ℕ) (s : FieldSays) (m : Option ℕ) (image : List ℕ) → length image ≡ (fuses + 7) / 8
    → length (put_field fuses rest s m image) ≡ length image
put_length fuses rest (says.Count n) m image e = refl
put_length fuses rest (says.Start x) m image e = image_length fuses (state_given x []) ∙ sym e
put_length fuses rest (says.List l) None image e = put_states_length (states_of (drop l.skip rest)) image l.first
put_length fuses rest (says.List l) (Some x) image e = refl
put_length fuses rest (says.Sum x) m image e = refl
put_length fuses rest says.Skipped m image e = refl
put_length fuses rest says.Bad m image e = refl
