-- `number_of_usercode` meets its contract: USERCODE is the last of the global fields.
-- Assumes nothing.
use mathlib.Core.Path.{◌≡◌}
use Prim.Native.Nat.{ℕ, ◌-◌, ◌≤◌}
use native.Mathlib.Omega.{arith}
use Rattle.part.specs.declared.Device.{Device}
use Rattle.settings.specs.Order.{count_of, number_of}
use Rattle.settings.specs.declared.GlobalField.TheVariants.{Usercode}
use Rattle.settings.specs.declared.Setting.TheVariants.{Global}
use borrow.Author.Rules.{rules}
use Rattle.settings.proofs.numbers.number_of_usercode.Goals as goal

some : (d : Device) (count : ℕ) → count ≡ count_of d → 1 ≤ count
unfolding count_of
some d count e = omega arith

last : (d : Device) (count : ℕ) → count ≡ count_of d → count - 1 ≡ number_of d (Global Usercode)
unfolding count_of number_of
last d count e = omega arith

pub overflow_sub-result : goal.overflow_sub-result
overflow_sub-result c = search (rules, some)

pub returns : goal.returns
returns c = search (rules, last)
