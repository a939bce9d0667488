-- The refusals 1 and 4 of an operation, and its answer where there is none, by the definitions that all operations on settings share.
-- Assumes nothing.
use mathlib.Core.Path.{◌≡◌}
use mathlib.Core.Bool.{true, false}
use Rattle.part.specs.Outcome.{Outcome}
use Rattle.part.specs.Outcome.Outcome.{refused}
use Rattle.part.specs.Device.{known}
use Rattle.part.specs.Sizes.{if_known}
use Rattle.part.specs.declared.Device.{Device}
use Rattle.settings.specs.Settings.{has_setting}
use Rattle.settings.specs.Operations.{if_setting}
use Rattle.settings.specs.declared.Setting.{Setting}

pub no_device : {A : Type 0} (d : Device) (o : Outcome A) → known d ≡ false → refused 1 0 ≡ if_known d o
no_device d o k = rw k

pub no_setting : {A : Type 0} (d : Device) (s : Setting) (o : Outcome A) → known d ≡ true → has_setting d s ≡ false
    → refused 4 0 ≡ if_setting d s o
no_setting d s o k h = rw (k, h)

pub the_setting : {A : Type 0} (d : Device) (s : Setting) (o x : Outcome A) → known d ≡ true → has_setting d s ≡ true → x ≡ o
    → x ≡ if_setting d s o
the_setting d s o x k h e = rw (k, h) e
