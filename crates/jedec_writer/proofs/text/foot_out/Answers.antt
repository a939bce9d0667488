-- `foot_out` meets its contract: a letter, four digits, and what follows them.
-- Assumes nothing.
use Rattle.jedec_writer.proofs.TextParts.{foot_of}
use borrow.Author.Rules.{rules}
use Rattle.jedec_writer.proofs.text.foot_out.Goals as goal

pub returns-clause-stored : goal.returns-clause-stored
returns-clause-stored c = search (rules, foot_of)
