-- `wire_and_place` meets its contract: it is the line of the definition for wire-ANDs.
-- Assumes nothing.
use mathlib.Core.Path.{refl}
use Rattle.setting_places.specs.Places.{place_of}
use Rattle.setting_places.proofs.places.wire_and_place.Goals as goal

pub returns : goal.returns
unfolding place_of
returns c = refl
