-- The definitions that the contracts of `jedec_reader` cite: Reader has those to believe, Walk those worked with.
-- Assumes nothing.
pub mod Reader
pub mod Walk
