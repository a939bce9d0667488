-- What the tests of a device, a length and a number say, for reading and setting alike, and what is then left of the definitions.
-- Assumes nothing.
use mathlib.Core.Path.{◌≡◌, ◌∙◌}
use mathlib.Core.Bool.{true, false}
use mathlib.Core.List.{List}
use Prim.Native.Nat.{ℕ, ◌^◌, ◌<◌, ◌≤◌}
use native.Mathlib.Omega.{arith}
use mir.Syntax.{w32}
use mir.Val.{Fits}
use lib.Dec.{ltb}
use lib.ListN.{length}
use borrow.Author.Tests.{eq-eqb, lt-ltb, le-ltb}
use Rattle.part.specs.Outcome.{Outcome, Written}
use Rattle.part.specs.Outcome.Outcome.{accepted, refused}
use Rattle.part.specs.Device.{known}
use Rattle.part.specs.declared.Device.{Device}
use Rattle.part.proofs.Targets.{says}
use Rattle.settings.specs.Settings.{has_setting}
use Rattle.settings.specs.Order.{count_of, setting_of}
use Rattle.settings.specs.declared.Setting.{Setting}
use Rattle.settings.proofs.Numbering.{number_inverse}
use Rattle.setting_places.specs.Places.{bits_of}
use Rattle.setting_bits.specs.declared.Layout.{Layout}
use Rattle.setting_bits.specs.SettingBits.{bytes_of, pattern_at, with_pattern}
use Rattle.setting_bits.proofs.Steps.{bytes_between}
use Rattle.edit.specs.Edit.{above_in}
use Rattle.edit_by_number.specs.ByNumber.{read_pattern, set_pattern, with_numbered}

pub below : (d : Device) (x count : ℕ) → count ≡ count_of d → x < count → x < count_of d
below d x count e l = omega arith

pub there : (d : Device) (x count : ℕ) (s : Setting) → count ≡ count_of d → x < count → s ≡ setting_of d x → has_setting d s ≡ true
there d x count s e l f = rw f (number_inverse d x (below d x count e l)).0

module _ (d : Device) (layout : Layout) (bytes : List ℕ) (size : ℕ) (e : size ≡ bytes_of d layout) (n : length bytes ≡ size) where
  pub its_size : length bytes ≡ bytes_of d layout
  its_size = n ∙ e

  pub above_fits : (above : ℕ) → known d ≡ true → above < length bytes → Fits w32 above
  above_fits above k l = record { fits = omega (arith, its_size, bytes_between d layout k) }

-- What setting must give: the outcome's answer, and the bytes that go with it.
abbrev pub PatternGives : Device → Layout → List ℕ → (x pattern : ℕ) → Outcome (Unit {0}) → List ℕ → Type 0
PatternGives d layout bytes x pattern answer after =
    Written (set_pattern d layout bytes x pattern) answer (with_numbered d layout bytes x pattern) bytes after

pub refusal : (d : Device) (layout : Layout) (bytes : List ℕ) (x pattern n v : ℕ) → refused n v ≡ set_pattern d layout bytes x pattern
    → PatternGives d layout bytes x pattern (refused n v) bytes
refusal d layout bytes x pattern n v e =
    says (set_pattern d layout bytes x pattern) (refused n v) (with_numbered d layout bytes x pattern) bytes e

-- For a device, a length and a number that there are.
module _ (d : Device) (layout : Layout) (bytes : List ℕ) (x : ℕ) (k : known d ≡ true)
    (n : length bytes ≡ bytes_of d layout) (l : x < count_of d)
    (s : Setting) (g : s ≡ setting_of d x) where
  module _ (above : ℕ) (q : above_in d layout bytes s ≡ above) where
    pub reads_above : above < length bytes → refused 6 above ≡ read_pattern d layout bytes x
    unfolding read_pattern
    reads_above m =
        rw (
          k,
          eq-eqb (length bytes) (bytes_of d layout) n,
          lt-ltb x (count_of d) l,
          ← g,
          q,
          lt-ltb above (bytes_of d layout) (omega (arith, n)),
        )

    pub reads_clean : (p : ℕ) → length bytes ≤ above → p ≡ pattern_at d layout bytes s → accepted p ≡ read_pattern d layout bytes x
    unfolding read_pattern
    reads_clean p m w =
        rw (
          k,
          eq-eqb (length bytes) (bytes_of d layout) n,
          lt-ltb x (count_of d) l,
          ← g,
          q,
          le-ltb above (bytes_of d layout) (omega (arith, n)),
          w,
        )

  module _ (pattern : ℕ) where
    pub sets_none : ltb pattern (2 ^ bits_of s) ≡ false → PatternGives d layout bytes x pattern (refused 5 0) bytes
    unfolding set_pattern
    sets_none t =
        refusal d layout bytes x pattern 5 0
        (rw (k, eq-eqb (length bytes) (bytes_of d layout) n, lt-ltb x (count_of d) l, ← g, t))

    module _ (t : ltb pattern (2 ^ bits_of s) ≡ true) (above : ℕ) (q : above_in d layout bytes s ≡ above) where
      pub sets_above : above < length bytes → PatternGives d layout bytes x pattern (refused 6 above) bytes
      unfolding set_pattern
      sets_above m =
          refusal d layout bytes x pattern 6 above
          (rw (
            k,
            eq-eqb (length bytes) (bytes_of d layout) n,
            lt-ltb x (count_of d) l,
            ← g,
            t,
            q,
            lt-ltb above (bytes_of d layout) (omega (arith, n)),
          ))

      pub sets_clean : (after : List ℕ) → length bytes ≤ above → after ≡ with_pattern d layout bytes s pattern
          → PatternGives d layout bytes x pattern (accepted tt) after
      unfolding set_pattern with_numbered
      sets_clean after m z =
          let same : accepted tt ≡ set_pattern d layout bytes x pattern =
          rw (
            k,
            eq-eqb (length bytes) (bytes_of d layout) n,
            lt-ltb x (count_of d) l,
            ← g,
            t,
            q,
            le-ltb above (bytes_of d layout) (omega (arith, n)),
          ) in
          record { answers = same; holds = rw (← same, ← g) z }
