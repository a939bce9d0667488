-- `usercode_at` meets its contract: a pair more of the pattern at each turn.
-- Assumes nothing.
use mathlib.Core.Path.{◌≡◌}
use mathlib.Core.List.{List}
use Prim.Native.Nat.{ℕ, ◌*◌}
use Rattle.part.specs.declared.Device.{Device}
use Rattle.setting_bits.specs.declared.Layout.{Layout}
use Rattle.setting_bits.proofs.Steps.{bits_read}
use Rattle.setting_bits.proofs.Usercode.{usercode}
use Rattle.setting_bits.proofs.in_bytes.usercode_at.Given as goal

-- What has been read so far.
pub record Read (d : Device) (layout : Layout) (bytes : List ℕ) (pattern pair : ℕ) : Type 0 where
  pub so_far : pattern ≡ bits_read d layout bytes usercode (2 * pair)

abbrev pub invariant-loop-pair : goal.invariant-loop-pair
invariant-loop-pair l = Read l.d.device l.layout l.bytes l.pattern l.pair
