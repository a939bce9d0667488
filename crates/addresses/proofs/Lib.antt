-- The laws about addresses, lowest first.
-- Assumes nothing.
pub mod ByteAddresses
pub mod Conversions
pub mod Readouts
mod Positions
pub mod Laws
