-- `pattern_at` meets its contract: USERCODE by pairs; of any other setting, a bit more of the pattern at each turn.
-- Assumes nothing.
use mathlib.Core.Path.{◌≡◌}
use Prim.Native.Nat.{ℕ}
use Rattle.part.specs.declared.Device.{Device}
use Rattle.settings.specs.declared.Setting.{Setting}
use Rattle.setting_places.specs.Places.{bits_of}
use mathlib.Core.List.{List}
use Rattle.setting_bits.specs.declared.Layout.{Layout}
use Rattle.setting_bits.proofs.Steps.{bits_read}
use Rattle.setting_bits.proofs.in_bytes.pattern_at.Given as goal

-- What has been read so far.
pub record Read (d : Device) (layout : Layout) (bytes : List ℕ) (s : Setting) (width pattern bit : ℕ) : Type 0 where
  pub all : width ≡ bits_of s
  pub so_far : pattern ≡ bits_read d layout bytes s bit

abbrev pub invariant-loop-bit : goal.invariant-loop-bit
invariant-loop-bit l = Read l.s.device.device l.layout l.bytes l.s.setting l.width l.pattern l.bit
