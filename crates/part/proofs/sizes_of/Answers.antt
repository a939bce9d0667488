-- `sizes_of` meets its contract: each size is its function's, and an unknown device is refused.
-- Assumes nothing.
use mathlib.Core.Path.{◌≡◌}
use mathlib.Core.Bool.{true, false}
use Prim.Native.Nat.{ℕ}
use borrow.Author.Rules.{rules}
use Rattle.part.specs.Outcome.Outcome.{accepted, refused}
use Rattle.part.specs.Device.{known, fuse_count, image_bytes, readout_bytes, text_bytes}
use Rattle.part.specs.Sizes.{sizes_of}
use Rattle.part.specs.declared.Device.{Device}
use Rattle.part.proofs.Refused.{refused_with}
use Rattle.part.proofs.sizes_of.Goals as goal

no_device : (d : Device) → known d ≡ false → refused 1 0 ≡ sizes_of d
unfolding sizes_of
no_device d h = rw h

the_sizes : (d : Device) (f i r t : ℕ) → known d ≡ true → f ≡ fuse_count d → i ≡ image_bytes d → r ≡ readout_bytes d → t ≡ text_bytes d
    → accepted (record { fuses = f; image_bytes = i; readout_bytes = r; text_bytes = t }) ≡ sizes_of d
unfolding sizes_of
the_sizes d f i r t k e1 e2 e3 e4 = rw (k, e1, e2, e3, e4)

pub returns-in_err-part : goal.returns-in_err-part
returns-in_err-part c = search (rules, refused_with, no_device)

pub returns : goal.returns
returns c = rw (← c.in_ok-part.ensures) (search (rules, the_sizes))
