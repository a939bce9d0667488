-- `put_report` meets its contract: the limit, then the device and buffer for its image.
-- Assumes nothing.
use Rattle.report.proofs.Answers.{image_fits, image_part, image_size, told_too_long, not_too_long}
use borrow.Author.Rules.{rules}
use Rattle.report.proofs.put_report.Goals as goal

pub returns-then-text-gt-MOST_LENGTH : goal.returns-then-text-gt-MOST_LENGTH
returns-then-text-gt-MOST_LENGTH c = search (rules, told_too_long)

pub slice_bounds-image-end : goal.slice_bounds-image-end
slice_bounds-image-end c = search (rules, image_fits)

pub slice_bounds-put_lines-end : goal.slice_bounds-put_lines-end
slice_bounds-put_lines-end c = search (rules, image_part)

pub put_lines-requires : goal.put_lines-requires
put_lines-requires c = (search (rules, image_size), search rules)

pub returns : goal.returns
returns c = search (rules, not_too_long)
