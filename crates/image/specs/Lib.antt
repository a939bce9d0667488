-- The definitions that the contracts of `image` cite.
-- Assumes nothing.
pub mod Bits
pub mod Image
