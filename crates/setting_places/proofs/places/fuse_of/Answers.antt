-- `fuse_of` meets its contract: the place is the device's, and its fuse is the fuse of the bit.
-- Assumes nothing.
use mathlib.Core.Path.{◌≡◌}
use Prim.Native.Nat.{ℕ}
use Rattle.part.specs.Place.{fuse_of_place}
use Rattle.part.specs.declared.Device.{Device}
use Rattle.part.specs.declared.Place.{Place}
use Rattle.settings.specs.declared.Setting.{Setting}
use Rattle.setting_places.specs.Places.{place_of, fuse_of}
use Rattle.setting_places.proofs.OnePlaceEach.{place_there}
use borrow.Author.Rules.{rules}
use Rattle.setting_places.proofs.places.fuse_of.Goals as goal

the_fuse : (d : Device) (s : Setting) (bit : ℕ) (p : Place) (f : ℕ) → p ≡ place_of s bit → f ≡ fuse_of_place d p → f ≡ fuse_of d s bit
unfolding fuse_of
the_fuse d s bit p f e g = rw (← e) g

pub fuse_of_place-requires : goal.fuse_of_place-requires
fuse_of_place-requires c = search (rules, place_there)

pub returns : goal.returns
returns c = search (rules, the_fuse)
