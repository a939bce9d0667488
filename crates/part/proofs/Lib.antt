-- The laws of `part` that belong to no one function.
-- Assumes nothing.
pub mod Facts
pub mod Lowest
pub mod Tables
pub mod Sums
pub mod Rows
pub mod Fuses
pub mod Devices
pub mod Portions
pub mod Checks
pub mod Targets
pub mod Refused
pub mod Laws
