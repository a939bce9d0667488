-- The definitions that the contracts of `readout` cite.
-- Assumes nothing.
pub mod Readout
