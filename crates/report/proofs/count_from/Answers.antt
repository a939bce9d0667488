-- `count_from` meets its contract: the first QF field of those still to come is the first of all.
-- Assumes nothing.
use mathlib.Core.Path.{ap, ◌∙◌}
use Rattle.std.specs.Prelude.{Some}
use borrow.Author.Rules.{rules}
use Rattle.report.proofs.Choice.{text_ends, fields_end, next_there, a_count, no_count}
use Rattle.report.proofs.count_from.Goals as goal

pub returns-in-Count : goal.returns-in-Count
returns-in-Count c =
    a_count _ _ _ c.loop-next.invariant.1 _ c.next_judged.ensures _ _ _ (c.in-Some.is ∙ ap Some c.in-Field.is) _ c.in-Count.is

pub loop-next-preserved : goal.loop-next-preserved
loop-next-preserved c =
    let field = c.in-Some.is ∙ ap Some c.in-Field.is in (
      next_there _ _ _ c.loop-next.invariant.1 _ c.next_judged.ensures _ _ _ field,
      no_count _ _ _ c.loop-next.invariant.1 _ c.next_judged.ensures _ _ _ field c.in_default-says.not-Count,
    )

pub returns-in-End : goal.returns-in-End
returns-in-End c =
    fields_end _ _ _ c.loop-next.invariant.1 _ c.next_judged.ensures _ (c.in-Some.is ∙ ap Some c.in-End.is)

pub returns : goal.returns
returns c = search (rules, text_ends)
