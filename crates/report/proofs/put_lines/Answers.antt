-- `put_lines` meets its contract: the lines of the image, or of the refusal.
-- Assumes nothing.
use Rattle.report.proofs.Answers.{of_image, of_refusal}
use borrow.Author.Rules.{rules}
use Rattle.report.proofs.put_lines.Goals as goal

pub returns-in-Ok : goal.returns-in-Ok
returns-in-Ok c = search (rules, of_image)

pub returns-in-Err : goal.returns-in-Err
returns-in-Err c = search (rules, of_refusal)
