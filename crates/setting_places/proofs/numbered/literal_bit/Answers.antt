-- `literal_bit` meets its contract: the setting of the number is a literal, which has one bit.
-- Assumes nothing.
use Rattle.setting_places.proofs.AtPlace.{no_second_bit, there_once, at_one_place, literal_there, literal_bits}
use borrow.Author.Rules.{rules}
use Rattle.setting_places.proofs.numbered.literal_bit.Goals as goal

pub returns-then-bit-gt0 : goal.returns-then-bit-gt0
returns-then-bit-gt0 c = search (rules, literal_there, literal_bits, no_second_bit)

pub located-requires : goal.located-requires
located-requires c = search (rules, literal_there, literal_bits, there_once)

pub returns : goal.returns
returns c = search (rules, literal_there, literal_bits, at_one_place)
