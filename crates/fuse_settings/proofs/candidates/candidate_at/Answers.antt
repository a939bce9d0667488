-- `candidate_at` meets its contract: by the area; the bits of a byte are below its width.
-- Assumes nothing.
use mathlib.Core.Path.{◌≡◌}
use mathlib.Core.Bool.{true}
use Prim.Native.Nat.{ℕ, ◌<◌}
use native.Mathlib.Omega.{arith}
use lib.Dec.{ltb}
use borrow.Author.Tests.{ltb-true}
use Rattle.part.specs.Place.{has_place, has_byte, width_of}
use Rattle.part.specs.declared.Device.{Device}
use Rattle.part.specs.declared.Place.{Place}
use Rattle.part.specs.declared.BytePlace.TheVariants.{Main, WireAnd}
use Rattle.part.proofs.Facts.{and_iff, tests}
use Rattle.part.proofs.Laws.{width_small}
use Rattle.fuse_settings.specs.Back.{candidate_at}
use Rattle.fuse_settings.proofs.candidates.candidate_at.Goals as goal

in_main_lem : (d : Device) (p : Place) (block row column : ℕ) → has_place d p ≡ true → p.byte ≡ Main block row column
    → (p.bit < 8) × (column < 15)
unfolding has_place
in_main_lem d p block row column h e =
    let facts = (and_iff (has_byte d p.byte) (ltb p.bit (width_of p.byte))).0 h in
    let byte = simp tests at (rw e at facts.0) in
    let inside = ltb-true p.bit (width_of p.byte) facts.1 in
    (omega (arith, width_small p.byte), byte.1)

in_wire_and_lem : (d : Device) (p : Place) (block subarea row column : ℕ) → has_place d p ≡ true → p.byte ≡ WireAnd block subarea row column
    → (p.bit < 8) × (column < 5)
unfolding has_place
in_wire_and_lem d p block subarea row column h e =
    let facts = (and_iff (has_byte d p.byte) (ltb p.bit (width_of p.byte))).0 h in
    let byte = simp tests at (rw e at facts.0) in
    let inside = ltb-true p.bit (width_of p.byte) facts.1 in
    (omega (arith, width_small p.byte), byte.1)

pub candidate_in_main-requires : goal.candidate_in_main-requires
candidate_in_main-requires c =
    in_main_lem c.args.d c.args.place _ _ _ c.requires
    c.in-Main.is

pub overflow_mul-result : goal.overflow_mul-result
overflow_mul-result c = omega (
  arith,
  in_wire_and_lem c.args.d c.args.place _ _ _ _ c.requires
      c.in-WireAnd.is,
)

pub overflow_add-result : goal.overflow_add-result
overflow_add-result c = omega (
  arith,
  in_wire_and_lem c.args.d c.args.place _ _ _ _ c.requires
      c.in-WireAnd.is,
)

pub returns-in-Main : goal.returns-in-Main
unfolding candidate_at
returns-in-Main c = rw c.in-Main.is c.candidate_in_main.ensures

pub returns-in-WireAnd : goal.returns-in-WireAnd
unfolding candidate_at
returns-in-WireAnd c = rw c.in-WireAnd.is
