-- `conclude` meets its contract: the first of the refusals 8, 9, 13, 10 and 11 that holds, or the image.
-- Assumes nothing.
use borrow.Author.Rules.{rules}
use Rattle.jedec_end.proofs.Ends.{eight, nine, thirteen, ten, last_test}
use Rattle.jedec_end.proofs.conclusion.conclude.Goals as goal

pub returns-in_err-check_count : goal.returns-in_err-check_count
returns-in_err-check_count c = search (rules, eight, c.in_err-check_count.ensures)

pub returns-in_err-check_lists : goal.returns-in_err-check_lists
returns-in_err-check_lists c = search (rules, nine)

pub returns-in_err-check_start : goal.returns-in_err-check_start
returns-in_err-check_start c =
    search (rules, thirteen, c.in_ok-check_count.ensures, c.in_ok-check_lists.ensures, c.in_err-check_start.ensures)

pub returns-in_err-check_sum : goal.returns-in_err-check_sum
returns-in_err-check_sum c = search (rules, ten)

pub returns : goal.returns
returns c =
    search (
      rules,
      last_test,
      c.in_ok-check_count.ensures,
      c.in_ok-check_lists.ensures,
      c.in_ok-check_start.ensures,
      c.in_ok-check_sum.ensures,
      c.check_transmission.ensures,
    )
