-- The definitions that the contracts of `jedec_lines` cite: columns in characters, and bytes stored.
-- Assumes nothing.
pub mod Columns
