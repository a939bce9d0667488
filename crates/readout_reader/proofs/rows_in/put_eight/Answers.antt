-- `put_eight` meets its contract: what the shift loses of the word is what it answers.
-- Assumes nothing.
use borrow.Author.Rules.{rules}
use Rattle.readout_reader.proofs.Carried.{eight_fits, eight_over, eight_stored}
use Rattle.readout_reader.proofs.rows_in.put_eight.Goals as goal

pub overflow_add-word : goal.overflow_add-word
overflow_add-word c = search (rules, eight_fits)

pub returns : goal.returns
returns c = record { value = search (rules, eight_over); image_after = search (rules, eight_stored) }
