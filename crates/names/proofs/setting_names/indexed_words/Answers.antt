-- `indexed_words` meets its contract: letters and digits, and the field.
-- Assumes nothing.
use Rattle.names.proofs.Spelled.{part_and_text, nothing_held}
use borrow.Author.Rules.{rules}
use Rattle.names.proofs.setting_names.indexed_words.Goals as goal

pub returns : goal.returns
returns c = search (rules, part_and_text, nothing_held)
