-- `four_hex` meets its contract: four digits, one above another.
-- Assumes nothing.
use Rattle.jedec_lines.proofs.HexDigits.{four_hex_of}
use borrow.Author.Rules.{rules}
use Rattle.jedec_lines.proofs.characters.four_hex.Goals as goal

pub returns : goal.returns
returns c = search (rules, four_hex_of)
