-- The definitions that the contracts of `jedec_writer` cite: the line pattern of a device, what the writer answers, and
-- what its functions promise each other.
-- Assumes nothing.
pub mod Pattern
pub mod Spots
