-- `tail_from` meets its contract: the digits so far, and what is left of the text.
-- Assumes nothing.
use mathlib.Core.Path.{◌≡◌}
use mathlib.Core.List.{List}
use Prim.Native.Nat.{ℕ, ◌+◌, ◌-◌, ◌^◌, ◌≤◌, ◌<◌}
use lib.ListN.{length, drop}
use Rattle.jedec.specs.Cut.{tail_from}
use Rattle.jedec_end.proofs.tail.tail_from.Given as goal

-- The digits so far write a sum, and the bytes still to come say what the whole says.
pub record Run (text : List ℕ) (at sum read : ℕ) : Type 0 where
  pub inside : at + read ≤ length text
  pub few : read ≤ 4
  pub small : sum < 16 ^ read
  pub rest : tail_from (at + read) (4 - read) sum (drop (at + read) text) ≡ tail_from at 4 0 (drop at text)

abbrev pub invariant-loop-read : goal.invariant-loop-read
invariant-loop-read l = Run l.text l.at l.sum l.read
