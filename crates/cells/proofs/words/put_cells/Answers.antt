-- `put_cells` meets its contract. The invariant, said of what is left: the stores of the cells still to come, made now, give
-- what all the stores give.
use mathlib.Core.Path.{◌≡◌, ◌∙◌}
use mathlib.Core.List.{List}
use Prim.Native.Nat.{ℕ, suc, ◌+◌, ◌-◌, ◌/◌, ◌%◌, ◌^◌, ◌<◌, ◌≤◌}
use native.Mathlib.Omega.{arith}
use lib.ListN.{replicate, set, length-set}
use lib.Seq.{sets}
use borrow.Author.Rules.{rules}
use Rattle.cells.specs.Cells.{cut}
use Rattle.cells.proofs.words.put_cells.Goals as goal

step : (out : List ℕ) (at width count i rest low : ℕ) → i < count → low ≡ rest % 2 ^ width
    → sets (set out (at + i) low) (at + (i + 1)) (cut (replicate (count - (i + 1)) width) (rest / 2 ^ width))
    ≡ sets out (at + i) (cut (replicate (count - i) width) rest)
unfolding cut
step out at width count i rest low h e =
    let more : count - i ≡ suc (count - (i + 1)) = omega arith in
    let next : at + (i + 1) ≡ suc (at + i) = omega arith in
    rw (more, next, e)

next_step : (out all : List ℕ) (at width count i rest low : ℕ) → i < count → low ≡ rest % 2 ^ width
    → sets out (at + i) (cut (replicate (count - i) width) rest) ≡ all
    → sets (set out (at + i) low) (at + (i + 1)) (cut (replicate (count - (i + 1)) width) (rest / 2 ^ width)) ≡ all
next_step out all at width count i rest low h e f = step out at width count i rest low h e ∙ f

end : (out all : List ℕ) (at width count i rest : ℕ) → count ≤ i
    → sets out (at + i) (cut (replicate (count - i) width) rest) ≡ all → out ≡ all
unfolding cut
end out all at width count i rest h e = let none : count - i ≡ 0 = omega arith in rw none at e

pub loop-i-preserved : goal.loop-i-preserved
loop-i-preserved c = (simp length-set (omega arith), search (rules, next_step))

pub returns : goal.returns
returns c = search (rules, end)
