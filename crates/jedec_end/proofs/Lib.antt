-- The laws about the end of a text.
-- Assumes nothing.
pub mod Tails
pub mod Ends
