-- The definitions that the contracts of `differences` cite.
-- Assumes nothing.
pub mod Differences
pub mod Scan
