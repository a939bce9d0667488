-- `literal_location` meets its contract: its one byte is looked at.
-- Assumes nothing.
use Rattle.setting_bits.proofs.Steps.{width_in}
use Rattle.edit_by_number.proofs.Literals.{place_there, at_index, at_bit_lem, location_in, index_fits, one_above, none_above}
use borrow.Author.Rules.{rules}
use Rattle.edit_by_number.proofs.by_number.literal_location.Goals as goal

pub location_at-at-requires : goal.location_at-at-requires
location_at-at-requires c = search (rules, place_there)

pub above_width-above-requires : goal.above_width-above-requires
above_width-above-requires c = (search (rules, location_in), search (rules, width_in))

pub overflow_cast-result : goal.overflow_cast-result
overflow_cast-result c = search (rules, index_fits)

pub returns-then-is_readout-above : goal.returns-then-is_readout-above
returns-then-is_readout-above c = search (rules, one_above)

pub returns : goal.returns
returns c = (search (rules, at_index), search (rules, at_bit_lem), search (rules, none_above))
