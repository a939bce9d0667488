-- `report` meets its contract: the report is made beside, and put in place where it fits.
-- Assumes nothing.
use Rattle.report.proofs.Answers.{few_fits, in_lines, part_length, long_enough}
use borrow.Author.Rules.{rules}
use Rattle.report.proofs.report.Goals as goal

pub overflow_cast-needed : goal.overflow_cast-needed
overflow_cast-needed c = record { fits = search (rules, few_fits) }

pub slice_bounds-lines-end : goal.slice_bounds-lines-end
slice_bounds-lines-end c = search (rules, in_lines)

pub slice_bounds-put-end : goal.slice_bounds-put-end
slice_bounds-put-end c = search (rules, part_length)

pub returns : goal.returns
returns c = search (rules, long_enough)
