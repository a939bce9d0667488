-- `read_numbered` meets its contract: USERCODE's own way, which gives what the way of any setting gives.
-- Assumes nothing.
use borrow.Author.Rules.{rules}
use Rattle.edit_by_number.proofs.Usercode.{reads_code}
use Rattle.edit_by_number.proofs.by_number.read_numbered.Goals as goal

pub returns-then-number-number_of_usercode : goal.returns-then-number-number_of_usercode
returns-then-number-number_of_usercode c =
    rw (← c.in_ok-part.ensures)
    (reads_code _ _ _ _ _ _ c.in_ok-part.part.is_known c.bytes_of.ensures c.if-bytes-bytes_of.false
    c.number_of_usercode.ensures c.if-number-number_of_usercode.true
    (λ i. search rules) _ c.usercode_at.ensures)
