-- `list_field` meets its contract: digits, a blank, and states and blanks up to a `*`; what stops earlier is bad.
-- Assumes nothing.
use borrow.Author.Rules.{rules}
use Rattle.jedec_fields.proofs.ListFields.{no_digits, no_blank, no_star, wrong_byte, no_state}
use Rattle.jedec_fields.proofs.ListFields.{a_good_list}
use Rattle.jedec_fields.proofs.lists.list_field.Goals as goal
use Rattle.jedec_fields.proofs.lists.list_field.Goals.{then-digits-eq0-via-then-digits-eq0, then-digits-eq0-via-else-digits-eq0+then-not-blank_at}
use Rattle.jedec_fields.proofs.lists.list_field.Goals.{then-length-bytes-via-then-length-bytes, then-length-bytes-via-else-length-bytes+then-bytes-length-ne42, then-length-bytes-via-else-length-bytes+else-bytes-length-ne42+then-run-eq0}

pub returns-then-digits-eq0 : goal.returns-then-digits-eq0
returns-then-digits-eq0 c =
    elim c.then-digits-eq0.branch [
      | then-digits-eq0-via-then-digits-eq0 w ↦ search (rules, no_digits)
      | then-digits-eq0-via-else-digits-eq0+then-not-blank_at w ↦ search (rules, no_blank)
    ]

pub returns-then-length-bytes : goal.returns-then-length-bytes
returns-then-length-bytes c =
    elim c.then-length-bytes.branch [
      | then-length-bytes-via-then-length-bytes w ↦ search (rules, no_star)
      | then-length-bytes-via-else-length-bytes+then-bytes-length-ne42 w ↦ search (rules, wrong_byte)
      | then-length-bytes-via-else-length-bytes+else-bytes-length-ne42+then-run-eq0 w ↦ search (rules, no_state)
    ]

pub returns : goal.returns
returns c = search (rules, a_good_list)
