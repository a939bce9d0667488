-- `put_pattern` meets its contract: USERCODE by pairs; of any other setting, one more bit put in place at each turn.
-- Assumes nothing.
use mathlib.Core.Path.{◌≡◌}
use mathlib.Core.List.{List}
use Prim.Native.Nat.{ℕ}
use lib.ListN.{length}
use Rattle.part.specs.declared.Device.{Device}
use Rattle.settings.specs.declared.Setting.{Setting}
use Rattle.setting_places.specs.Places.{bits_of}
use Rattle.setting_bits.specs.declared.Layout.{Layout}
use Rattle.setting_bits.specs.SettingBits.{bytes_of, with_bits}
use Rattle.setting_bits.proofs.in_bytes.put_pattern.Given as goal

-- The bits put in place so far.
pub record Put (d : Device) (layout : Layout) (before : List ℕ) (s : Setting) (pattern width : ℕ) (bytes : List ℕ) (bit : ℕ) : Type 0 where
  pub all : width ≡ bits_of s
  pub size : length bytes ≡ bytes_of d layout
  pub so_far : bytes ≡ with_bits d layout before s pattern bit

abbrev pub invariant-loop-bit : goal.invariant-loop-bit
invariant-loop-bit l = Put l.s.device.device l.layout l.initial.bytes l.s.setting l.pattern l.last l.bytes l.bit
