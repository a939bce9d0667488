-- `image_to_text` meets its contract: the tests, 1 before 2 before 12, and the text.
-- Assumes nothing.
use Rattle.jedec_writer.specs.Pattern.{to_text}
use Rattle.jedec_writer.proofs.TextParts.{refused_first, too_short, all_passed}
use borrow.Author.Rules.{rules}
use Rattle.jedec_writer.proofs.image_to_text.Goals as goal

pub returns-in_err-whole : goal.returns-in_err-whole
unfolding to_text
returns-in_err-whole c = search (rules, refused_first)

pub returns-then-text-needed : goal.returns-then-text-needed
returns-then-text-needed c = search (rules, too_short)

pub returns : goal.returns
returns c = search (rules, all_passed)
