-- The definitions that the contracts of `names` cite: the names, and the pieces of up to eight bytes that they are
-- made of.
-- Assumes nothing.
pub mod Names
pub mod Pieces
