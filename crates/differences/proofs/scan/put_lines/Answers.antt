-- `put_lines` meets its contract: the lines so far and those of what is to come are all.
-- Assumes nothing.
use mathlib.Core.Path.{refl}
use native.Mathlib.Omega.{arith}
use Rattle.differences.proofs.LaidText.{going_on}
use Rattle.differences.proofs.Walks.{same_length as lengths-same, few_bytes, ones_there, text_on, text_fits, put_start, put_all}
use borrow.Author.Rules.{rules}
use Rattle.differences.proofs.scan.put_lines.Goals as goal

pub skip_same-i-requires : goal.skip_same-i-requires
skip_same-i-requires c = (
  search (rules, lengths-same),
  omega (arith, few_bytes _ _ _ c.args.part.is_known c.requires.0 c.requires.1),
  search rules,
)

pub loop-i-init : goal.loop-i-init
loop-i-init c = (
  omega arith,
  few_bytes _ _ _ c.args.part.is_known c.requires.0 c.requires.1,
  put_start _ _ _ c.args.part.is_known c.requires.0 c.requires.1 _ _ _ _ c.skip_same-i.ensures.0 (omega arith),
  refl,
)

pub put_word-next-requires : goal.put_word-next-requires
put_word-next-requires c =
    let word = c.word_at-states.ensures in
    let other = c.word_at.ensures in (
      omega arith,
      ones_there _ _ _ c.args.part.is_known c.requires.0 c.requires.1 c.loop-i.i _ _ 0 (search rules) word other,
      text_fits _ _ _ c.args.part.is_known c.requires.0 c.requires.1 c.loop-i.i _ _ 0 (search rules) word other _ _
          _ _ _ _ c.loop-i.invariant.2 c.requires.2,
      search rules,
    )

pub loop-i-preserved : goal.loop-i-preserved
loop-i-preserved c =
    let word = c.word_at-states.ensures in
    let other = c.word_at.ensures in
    let put = c.put_word-next.ensures in (
      omega arith,
      c.loop-i.invariant.1,
      going_on _ _ _ _ _ _ _ _ _ _ _ c.loop-i.invariant.2
          (text_on _ _ _ c.args.part.is_known c.requires.0 c.requires.1 c.loop-i.i _ _ _ (search rules) word other
          c.skip_same-i-in-loop-i.ensures.0) put,
      omega (arith, put.long, c.loop-i.invariant.3),
    )

pub returns : goal.returns
returns c =
    put_all _ _ _ c.args.part.is_known c.requires.0 c.requires.1 _ _ _ c.loop-i.i _ _ (search rules)
    c.loop-i.invariant.2 c.requires.2
