-- `measure` meets its contract: what is counted so far and what is to come are all.
-- Assumes nothing.
use mathlib.Core.Path.{ap}
use native.Mathlib.Omega.{arith}
use lib.ListN.{length}
use Rattle.differences.specs.Scan.{lines_bytes}
use Rattle.differences.proofs.Walks.{same_length, few_bytes, from_first, ones_there, fuses_fit, fuses_on, words_on, counted_all, measured_all, most_differ}
use borrow.Author.Rules.{rules}
use Rattle.differences.proofs.scan.measure.Goals as goal

pub skip_same-at-requires : goal.skip_same-at-requires
skip_same-at-requires c = (
  search (rules, same_length),
  omega (arith, few_bytes _ _ _ c.args.part.is_known c.requires.0 c.requires.1),
  search rules,
)

pub loop-at-init : goal.loop-at-init
loop-at-init c =
    let all = from_first _ _ _ c.args.part.is_known c.requires.0 c.requires.1 _ c.skip_same-at.ensures.0 in (
      omega arith,
      few_bytes _ _ _ c.args.part.is_known c.requires.0 c.requires.1,
      omega (arith, ap length all),
      omega (arith, ap (lines_bytes c.args.part.device) all),
      omega arith,
    )

pub overflow_add-fuses : goal.overflow_add-fuses
overflow_add-fuses c =
    let fit = fuses_fit _ _ _ c.args.part.is_known c.requires.0 c.requires.1 c.loop-at.at _ _ 0 (search rules)
    c.word_at.ensures c.word_at-in-loop-at.ensures c.loop-at.fuses c.loop-at.invariant.2 in
    omega (arith, fit)

pub word_bytes-bytes-requires : goal.word_bytes-bytes-requires
word_bytes-bytes-requires c = (omega arith, search (rules, ones_there))

pub loop-at-preserved : goal.loop-at-preserved
loop-at-preserved c =
    let word = c.word_at.ensures in
    let other = c.word_at-in-loop-at.ensures in
    let skipped = c.skip_same-at-in-loop-at.ensures.0 in (
      omega arith,
      c.loop-at.invariant.1,
      fuses_on _ _ _ c.args.part.is_known c.requires.0 c.requires.1 c.loop-at.at _ _ _ (search rules) word other skipped
          c.loop-at.fuses _ c.loop-at.invariant.2,
      words_on _ _ _ c.args.part.is_known c.requires.0 c.requires.1 c.loop-at.at _ _ _ (search rules) word other skipped
          c.loop-at.bytes _ _ c.loop-at.invariant.3 c.word_bytes-bytes.ensures.0,
      omega arith,
    )

pub returns : goal.returns
returns c =
    let fuses = counted_all _ _ _ c.args.part.is_known c.requires.0 c.requires.1 _ c.loop-at.at _ (search rules)
    c.loop-at.invariant.2 in (
      fuses,
      measured_all _ _ _ c.args.part.is_known c.requires.0 c.requires.1 _ c.loop-at.at _ (search rules)
          c.loop-at.invariant.3,
      omega (arith, most_differ _ _ _ c.args.part.is_known c.requires.0 c.requires.1, fuses),
      omega arith,
    )
