-- `located` meets its contract: the byte of the place is the device's.
-- Assumes nothing.
use Rattle.part.proofs.Fuses.{has_byte_lem}
use borrow.Author.Rules.{rules}
use Rattle.setting_places.proofs.located.Goals as goal

pub address_of_byte-address-requires : goal.address_of_byte-address-requires
address_of_byte-address-requires c = search (rules, has_byte_lem)
