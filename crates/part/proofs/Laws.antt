-- What holds of the definitions of specs/, each law once, for every device:
--   refusal_determined    number and value determine the refusal: a contract that gives both determines the answer
--   number_small          the numbers of the refusals are at most 13
--   width_small           no width exceeds 8
--   table_of_sizes        document 01's table, with the lengths of the texts
--   no_devices            a count and a class that no device has are refused
--   lowest_iff            `lowest` is the lowest number below another that passes a test, or that other number
use mathlib.Core.Path.{◌≡◌, refl, sym, ◌∙◌, ap₂}
use mathlib.Core.Bool.{cond}
use Prim.Native.Nat.{ℕ, ◌≤◌}
use native.Mathlib.Omega.{arith}
use lib.Dec.{eqb}
use Rattle.part.specs.Device.{known, fuse_count, column_width, image_bytes, readout_bytes, text_bytes}
use Rattle.part.specs.Answer.{refusal_number, refusal_value}
use Rattle.part.specs.Place.{width_of}
use Rattle.part.specs.Sizes.{sizes_of}
use Rattle.part.specs.Cases.{TableOfSizes, NoDevices}
use Rattle.part.specs.declared.BytePlace.{BytePlace}
use Rattle.part.specs.declared.BytePlace.TheVariants.{Main, WireAnd}
use Rattle.part.specs.declared.Refusal.{Refusal}
use Rattle.part.specs.declared.Refusal.TheVariants.{UnknownDevice, WrongLength, NoSuchFuse, NoSuchSetting}
use Rattle.part.specs.declared.Refusal.TheVariants.{NoSuchValue, BitAboveWidth}
use Rattle.part.specs.declared.Refusal.TheVariants.{BadForm, WrongFuseCount, MisplacedFuseList, WrongFuseSum, WrongTransmissionSum}
use Rattle.part.specs.declared.Refusal.TheVariants.{BufferTooShort, FuseNotGiven}
use Rattle.part.proofs.Facts.{by_cases}
pub use Rattle.part.proofs.Lowest.{lowest_iff}

-- The refusal of a number and a value.
refusal : ℕ → ℕ → Refusal
refusal k v =
    cond (eqb k 1) UnknownDevice (cond (eqb k 2) WrongLength (cond (eqb k 3) NoSuchFuse (cond (eqb k 4) NoSuchSetting
    (cond (eqb k 5) NoSuchValue (cond (eqb k 6) (BitAboveWidth v) (cond (eqb k 7) (BadForm v)
    (cond (eqb k 8) (WrongFuseCount v) (cond (eqb k 9) (MisplacedFuseList v)
    (cond (eqb k 10) (WrongFuseSum v) (cond (eqb k 11) (WrongTransmissionSum v)
    (cond (eqb k 12) (BufferTooShort v) (FuseNotGiven v))))))))))))

found : (r : Refusal) → refusal (refusal_number r) (refusal_value r) ≡ r
unfolding refusal
found UnknownDevice = refl
found WrongLength = refl
found NoSuchFuse = refl
found NoSuchSetting = refl
found NoSuchValue = refl
found (BitAboveWidth v) = refl
found (BadForm v) = refl
found (WrongFuseCount v) = refl
found (MisplacedFuseList v) = refl
found (WrongFuseSum v) = refl
found (WrongTransmissionSum v) = refl
found (BufferTooShort v) = refl
found (FuseNotGiven v) = refl

pub refusal_determined : (r s : Refusal) → refusal_number r ≡ refusal_number s → refusal_value r ≡ refusal_value s → r ≡ s
refusal_determined r s e f = sym (found r) ∙ ap₂ refusal e f ∙ found s

pub number_small : (r : Refusal) → refusal_number r ≤ 13
number_small UnknownDevice = omega arith
number_small WrongLength = omega arith
number_small NoSuchFuse = omega arith
number_small NoSuchSetting = omega arith
number_small NoSuchValue = omega arith
number_small (BitAboveWidth v) = omega arith
number_small (BadForm v) = omega arith
number_small (WrongFuseCount v) = omega arith
number_small (MisplacedFuseList v) = omega arith
number_small (WrongFuseSum v) = omega arith
number_small (WrongTransmissionSum v) = omega arith
number_small (BufferTooShort v) = omega arith
number_small (FuseNotGiven v) = omega arith

width_at_lem : (wide narrow column : ℕ) → narrow ≤ 8 → column_width wide narrow column ≤ 8
width_at_lem wide narrow column h = by_cases (λ x. x ≤ 8) column wide (λ l. omega arith) (λ g. h)

pub width_small : (byte : BytePlace) → width_of byte ≤ 8
width_small (Main block row column) = width_at_lem 9 6 column (omega arith)
width_small (WireAnd block subarea row column) = width_at_lem 1 7 column (omega arith)

pub table_of_sizes : TableOfSizes
unfolding sizes_of known fuse_count image_bytes readout_bytes text_bytes
table_of_sizes = (λ class h. rw h, λ class h. rw h, λ class h. rw h, λ class h. rw h, λ class h. rw h, λ class h. rw h)

pub no_devices : NoDevices
unfolding sizes_of known
no_devices = (refl, refl)
