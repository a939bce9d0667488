-- `walk` meets its contract: what the fields so far gave, and the fields still to come.
-- Assumes nothing.
use borrow.Author.Rules.{rules}
use Rattle.jedec_reader.proofs.Walks.{starts, early, the_end}
use Rattle.jedec_reader.proofs.Walks.{a_bad_field, few_states, one_more}
use Rattle.jedec_reader.proofs.walk.walk.Goals as goal

pub loop-next-init : goal.loop-next-init
loop-next-init c = search (rules, starts)

pub returns-in-End : goal.returns-in-End
returns-in-End c = search (rules, the_end, c.in-Some.ensures)

pub returns-then-not-may_stand : goal.returns-then-not-may_stand
returns-then-not-may_stand c = search (rules, a_bad_field, c.in-Some.ensures)

pub after_field-p-requires : goal.after_field-p-requires
after_field-p-requires c = search (rules, few_states, c.in-Some.ensures)

pub loop-next-preserved : goal.loop-next-preserved
loop-next-preserved c = search (rules, one_more, c.in-Some.ensures)

pub returns : goal.returns
returns c = search (rules, early, c.in_default.ensures)
