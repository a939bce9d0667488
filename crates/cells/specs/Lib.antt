-- The definitions that the contracts of `cells` cite.
-- Assumes nothing.
pub mod Cells
