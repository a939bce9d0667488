-- The edit by setting number and pattern is the edit by the setting and the value that they stand for.
-- Assumes nothing.
use mathlib.Core.Path.{◌≡◌, refl}
use mathlib.Core.Bool.{Bool, true, false, cond}
use mathlib.Core.List.{List}
use mathlib.Core.Option.Option.{some}
use Prim.Native.Nat.{ℕ, ◌^◌, ◌<◌}
use lib.Dec.{eqb, ltb}
use lib.ListN.{length}
use borrow.Author.Tests.{lt-ltb}
use Rattle.part.specs.Outcome.{Outcome}
use Rattle.part.specs.Outcome.Outcome.{accepted, refused}
use Rattle.part.specs.Device.{known}
use Rattle.part.specs.declared.Device.{Device}
use Rattle.settings.specs.Settings.{has_setting}
use Rattle.settings.specs.Order.{count_of, setting_of}
use Rattle.settings.specs.declared.Setting.{Setting}
use Rattle.settings.proofs.Numbering.{number_inverse}
use Rattle.setting_places.specs.Places.{bits_of}
use Rattle.patterns.specs.Patterns.{pattern_in}
use Rattle.patterns.proofs.Laws as patterns
use Rattle.setting_values.specs.Kinds.{kind_of, value_of}
use Rattle.setting_values.proofs.Widths.{kind_bits}
use Rattle.setting_bits.specs.declared.Layout.{Layout}
use Rattle.setting_bits.specs.SettingBits.{bytes_of}
use Rattle.edit.specs.Edit.{with_value, above_in, read_in, set_in}
use Rattle.edit_by_number.specs.ByNumber.{read_pattern, set_pattern, with_numbered}

-- An outcome with its result turned into another.
abbrev pub mapped : {A B : Type 0} → (A → B) → Outcome A → Outcome B
mapped f (accepted x) = accepted (f x)
mapped f (refused number value) = refused number value

mapped_cond : {A B : Type 0} (f : A → B) (t : Bool) (x y : Outcome A) → mapped f (cond t x y) ≡ cond t (mapped f x) (mapped f y)
mapped_cond f true x y = refl
mapped_cond f false x y = refl

module _ (d : Device) (k : known d ≡ true) (layout : Layout) (bytes : List ℕ) (number : ℕ) (below : number < count_of d) where
  s : Setting
  s = setting_of d number

  there : has_setting d s ≡ true
  unfolding s
  there = (number_inverse d number below).0

  pub reads_numbered : read_in d layout bytes (setting_of d number)
      ≡ mapped (value_of d (setting_of d number)) (read_pattern d layout bytes number)
  unfolding read_pattern read_in s
  reads_numbered =
      let value = value_of d (setting_of d number) in
      rw (
        lt-ltb number (count_of d) below,
        there,
        mapped_cond value (known d) _ _,
        mapped_cond value (eqb (length bytes) (bytes_of d layout)) _ _,
        mapped_cond value (ltb (above_in d layout bytes (setting_of d number)) (bytes_of d layout)) _ _,
      )

  pub sets_numbered : (pattern : ℕ) → pattern < 2 ^ bits_of (setting_of d number)
      → (set_pattern d layout bytes number pattern ≡ set_in d layout bytes (setting_of d number) (value_of d (setting_of d number) pattern))
      × (with_numbered d layout bytes number pattern
      ≡ with_value d layout bytes (setting_of d number) (value_of d (setting_of d number) pattern))
  unfolding set_pattern set_in with_numbered with_value s
  sets_numbered pattern fits =
      let value : pattern_in (kind_of d (setting_of d number)) (value_of d (setting_of d number) pattern) ≡ some pattern =
      (patterns.pattern_iff (kind_of d (setting_of d number)) _ pattern).1 (rw (kind_bits d (setting_of d number) there) fits, refl) in
      (rw (lt-ltb number (count_of d) below, there, lt-ltb pattern (2 ^ bits_of (setting_of d number)) fits, value), rw value)
