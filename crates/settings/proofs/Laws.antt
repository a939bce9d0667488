-- What holds of the definitions of specs/, each law once, for every device:
--   numbers_inverse   a number has this setting exactly if this setting has that number
--   each_number       every number below the count has a setting, and every setting of the device a number below the count
--   listing_order     the lower number is that of the setting listed first: by group, then by its indices, the last fastest
--   numbers, numbers_of_large, counts   the numbers of every field and the counts, on the part of two blocks (specs/Cases.antt)
use mathlib.Core.Path.{◌≡◌}
use mathlib.Core.Logic.{◌↔◌}
use mathlib.Core.Bool.{true}
use Prim.Native.Nat.{ℕ, ◌<◌}
use lib.Dec.{ltb}
use borrow.Author.Tests.{lt-ltb, ltb-true}
use Rattle.part.specs.Outcome.Outcome.{accepted}
use Rattle.part.specs.Device.{known}
use Rattle.part.specs.declared.Device.{Device}
use Rattle.part.proofs.Checks.{passed, result}
use Rattle.settings.specs.Settings.{has_setting}
use Rattle.settings.specs.Order.{count_of, number_of, setting_of}
use Rattle.settings.specs.Operations.{setting_of_number, number_of_setting}
use Rattle.settings.specs.declared.Setting.{Setting}
use Rattle.settings.proofs.Numbering.{number_below, setting_inverse, number_inverse}
pub use Rattle.settings.proofs.ListingOrder.{listing_order}
pub use Rattle.settings.proofs.Cases.{numbers, numbers_of_large, counts}

-- A setting of a known device, and its number.
numbers_to : (d : Device) (x : ℕ) (s : Setting) → setting_of_number d x ≡ accepted s → number_of_setting d s ≡ accepted x
unfolding setting_of_number number_of_setting
numbers_to d x s e =
    let outer = passed (known d) _ 1 0 e in
    let inner = passed (ltb x (count_of d)) _ 4 0 outer.1 in
    let inverse = number_inverse d x (ltb-true x (count_of d) inner.0) in
    rw (outer.0, ← result inner.1, inverse.0, inverse.1)

numbers_from_lem : (d : Device) (x : ℕ) (s : Setting) → number_of_setting d s ≡ accepted x → setting_of_number d x ≡ accepted s
unfolding setting_of_number number_of_setting
numbers_from_lem d x s e =
    let outer = passed (known d) _ 1 0 e in
    let inner = passed (has_setting d s) _ 4 0 outer.1 in
    let below : ltb (number_of d s) (count_of d) ≡ true = lt-ltb _ _ (number_below d s inner.0) in
    rw (outer.0, ← result inner.1, below, setting_inverse d s inner.0)

pub numbers_inverse : (d : Device) (x : ℕ) (s : Setting) → (setting_of_number d x ≡ accepted s) ↔ (number_of_setting d s ≡ accepted x)
numbers_inverse d x s = (numbers_to d x s, numbers_from_lem d x s)

pub each_number : (d : Device) → known d ≡ true
    → ((x : ℕ) → x < count_of d → (s : Setting) × (setting_of_number d x ≡ accepted s))
    × ((s : Setting) → has_setting d s ≡ true → (x : ℕ) × (x < count_of d) × (number_of_setting d s ≡ accepted x))
unfolding setting_of_number number_of_setting
each_number d k = (
  λ x h. (setting_of d x, rw (k, lt-ltb x (count_of d) h)),
  λ s h. (number_of d s, number_below d s h, rw (k, h)),
)
