-- `bit_at` meets its contract: none past the width of the setting, and else what lies at the place of the bit.
-- Assumes nothing.
use Rattle.setting_places.proofs.AtPlace.{no_bit_lem, there, at_place_lem}
use borrow.Author.Rules.{rules}
use Rattle.setting_places.proofs.bit_at.Goals as goal

pub returns-then-bits_of-bit : goal.returns-then-bits_of-bit
returns-then-bits_of-bit c = search (rules, no_bit_lem)

pub located-requires : goal.located-requires
located-requires c = search (rules, there)

pub returns : goal.returns
returns c = search (rules, at_place_lem)
