-- `word_bytes` meets its contract: the bytes so far and those of the ones that are left are all.
-- Assumes nothing.
use native.Mathlib.Omega.{arith}
use Rattle.differences.proofs.LineTexts.{first_below, rest_word, rest_below, ones_fall, room_on, bytes_on, bytes_end, ones_few}
use borrow.Author.Rules.{rules}
use Rattle.differences.proofs.scan.word_bytes.Goals as goal

pub loop-left-init : goal.loop-left-init
loop-left-init c = (search rules, omega arith, search rules, omega (arith, ones_few c.args.from c.args.x))

pub invariant_of-there : goal.invariant_of-there
invariant_of-there c =
    record { is_there = first_below c.args.from c.loop-left.left (search rules) c.loop-left.invariant.0 _ c.loop-left.invariant.2 }

pub loop-left-smaller : goal.loop-left-smaller
loop-left-smaller c = ones_fall c.args.from c.loop-left.left (search rules) c.loop-left.invariant.0 _ c.without_lowest-left.ensures

pub loop-left-preserved : goal.loop-left-preserved
loop-left-preserved c = (
  rest_word c.args.from c.loop-left.left (search rules) c.loop-left.invariant.0 _ c.without_lowest-left.ensures,
  bytes_on c.args.from c.loop-left.left (search rules) c.loop-left.invariant.0 _ c.without_lowest-left.ensures _ _ _ _
      c.loop-left.invariant.1 c.line_bytes-bytes.ensures.0,
  rest_below c.args.from c.loop-left.left (search rules) c.loop-left.invariant.0 _ c.without_lowest-left.ensures _
      c.loop-left.invariant.2,
  room_on c.args.from c.loop-left.left (search rules) c.loop-left.invariant.0 _
      c.without_lowest-left.ensures _ _ _ c.loop-left.invariant.3 c.line_bytes-bytes.ensures.1,
)

pub returns : goal.returns
returns c = (search (rules, bytes_end), omega arith)
