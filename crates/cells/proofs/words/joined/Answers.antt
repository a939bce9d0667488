-- `joined` meets its contract. The invariant: the word is the cells from `at + i` on, joined.
-- Assumes nothing.
use mathlib.Core.Path.{◌≡◌}
use mathlib.Core.List.{List}
use Prim.Native.Nat.{ℕ, suc, ◌+◌, ◌*◌, ◌-◌, ◌%◌, ◌^◌, ◌<◌, ◌≤◌}
use native.Mathlib.Omega.{arith}
use native.Mathlib.Nat.{add-zero}
use lib.ListN.{get_or, drop, replicate}
use lib.Pow.{shl_exact}
use lib.Seq.{drop-drop, get_or-drop}
use mir.Syntax.{w64}
use mir.Val.{Fits}
use borrow.Author.Rules.{rules}
use Rattle.cells.specs.Cells.{join}
use Rattle.cells.proofs.Laws.{join_few}
use Rattle.cells.proofs.words.joined.Goals as goal

start : (cells : List ℕ) (at width count : ℕ) → 0 ≡ join (replicate (count - count) width) (drop (at + count) cells)
unfolding join
start cells at width count = let e : count - count ≡ 0 = omega arith in rw e

step : (cells : List ℕ) (at width count i word low : ℕ) → 0 < i → i ≤ count → count ≤ 8 → width ≤ 8
    → word ≡ join (replicate (count - i) width) (drop (at + i) cells) → low ≡ get_or cells (at + (i - 1)) 0 % 2 ^ width
    → word * 2 ^ width % 2 ^ 64 + low ≡ join (replicate (count - (i - 1)) width) (drop (at + (i - 1)) cells)
unfolding join
step cells at width count i word low h0 hi hc hw e1 e2 =
    let more : count - (i - 1) ≡ suc (count - i) = omega arith in
    let next : at + (i - 1) + 1 ≡ at + i = omega arith in
    let exact : word * 2 ^ width % 2 ^ 64 ≡ word * 2 ^ width =
    shl_exact 56 width 64 (rw e1 (join_few (count - i) width 7 (drop (at + i) cells) (omega arith) hw)) (omega arith) in
    rw (exact, e1, e2, more, drop-drop 1 (at + (i - 1)) cells, next, get_or-drop (at + (i - 1)) cells 0 0, add-zero)

fits : (cells : List ℕ) (at width count i word low : ℕ) → 0 < i → i ≤ count → count ≤ 8 → width ≤ 8
    → word ≡ join (replicate (count - i) width) (drop (at + i) cells) → low ≡ get_or cells (at + (i - 1)) 0 % 2 ^ width
    → Fits w64 (word * 2 ^ width % 2 ^ 64 + low)
fits cells at width count i word low h0 hi hc hw e1 e2 =
    let s = join_few (count - (i - 1)) width 8 (drop (at + (i - 1)) cells) (omega arith) hw in
    let e = step cells at width count i word low h0 hi hc hw e1 e2 in
    rw e (omega arith)

pub loop-i-init : goal.loop-i-init
loop-i-init c = search (rules, start)

pub overflow_add-word : goal.overflow_add-word
overflow_add-word c = search (rules, fits)

pub loop-i-preserved : goal.loop-i-preserved
loop-i-preserved c = search (rules, step)
