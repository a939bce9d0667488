-- The definitions that the contracts of `xc9500` cite.
-- Assumes nothing.
pub mod Packed
pub mod Words
