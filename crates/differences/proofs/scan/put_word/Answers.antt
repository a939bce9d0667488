-- `put_word` meets its contract: the lines so far and those of the ones that are left are all.
-- Assumes nothing.
use native.Mathlib.Omega.{arith}
use Rattle.differences.proofs.LaidText.{going_on, going_end}
use Rattle.differences.proofs.LineTexts.{first_below, rest_word, rest_below, ones_fall, state_small, line_on, line_fits, lines_end, lines_fit}
use borrow.Author.Rules.{rules}
use Rattle.differences.proofs.scan.put_word.Goals as goal

pub invariant_of-there : goal.invariant_of-there
invariant_of-there c =
    record { is_there = first_below c.args.from c.loop-left.left (search rules) c.loop-left.invariant.0 _ c.loop-left.invariant.1 }

pub put_before-next-requires : goal.put_before-next-requires
put_before-next-requires c =
    let left = c.loop-left.left in
    let word = c.loop-left.invariant.0 in (
      state_small c.args.part.device c.args.from c.args.states left (search rules) word _ c.low_bits-state.ensures,
      line_fits c.args.part.device c.args.from c.args.states left (search rules) word _ _ _ _ _ _ _ c.loop-left.invariant.2
          (lines_fit c.args.part.device c.args.from c.args.states c.args.x _ _ (search rules)),
      search rules,
    )

pub loop-left-smaller : goal.loop-left-smaller
loop-left-smaller c =
    ones_fall c.args.from c.loop-left.left (search rules) c.loop-left.invariant.0 _ c.without_lowest-left.ensures

pub loop-left-preserved : goal.loop-left-preserved
loop-left-preserved c =
    let from = c.args.from in
    let left = c.loop-left.left in
    let word = c.loop-left.invariant.0 in
    let without = c.without_lowest-left.ensures in
    let put = c.put_before-next.ensures in
    let state = c.low_bits-state.ensures in (
      rest_word from left (search rules) word _ without,
      rest_below from left (search rules) word _ without _ c.loop-left.invariant.1,
      going_on _ _ _ _ _ _ _ _ _ _ _ c.loop-left.invariant.2
          (line_on c.args.part.device from c.args.states left (search rules) word _ _ without state) put,
      omega (arith, put.long, c.loop-left.invariant.3),
    )

pub returns : goal.returns
returns c =
    going_end _ _ _ _ _ _ _ c.loop-left.invariant.2
    (lines_end c.args.part.device c.args.from c.args.states c.loop-left.left (search rules))
