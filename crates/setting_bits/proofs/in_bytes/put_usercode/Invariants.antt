-- `put_usercode` meets its contract: a pair more put in place at each turn, of one row and then of the other.
-- Assumes nothing.
use mathlib.Core.Path.{◌≡◌}
use mathlib.Core.List.{List}
use Prim.Native.Nat.{ℕ, ◌*◌}
use lib.ListN.{length}
use Rattle.part.specs.declared.Device.{Device}
use Rattle.setting_bits.specs.declared.Layout.{Layout}
use Rattle.setting_bits.specs.SettingBits.{bytes_of, with_bits}
use Rattle.setting_bits.proofs.Usercode.{usercode}
use Rattle.setting_bits.proofs.in_bytes.put_usercode.Given as goal

-- The pairs of a row put in place so far, from its first on: with all before that in place, so are these.
pub record Put (d : Device) (layout : Layout) (pattern first : ℕ) (entry bytes : List ℕ) (pair : ℕ) : Type 0 where
  pub size : length bytes ≡ bytes_of d layout
  pub so_far : (before : List ℕ) → entry ≡ with_bits d layout before usercode pattern (2 * first)
      → bytes ≡ with_bits d layout before usercode pattern (2 * pair)

abbrev pub invariant-loop-pair : goal.invariant-loop-pair
invariant-loop-pair l = Put l.d.device l.layout l.pattern 0 l.initial.bytes l.bytes l.pair

abbrev pub invariant-loop-pair-2 : goal.invariant-loop-pair-2
invariant-loop-pair-2 l = Put l.d.device l.layout l.pattern 8 l.initial.bytes l.bytes l.pair
