-- The definitions that the contracts of `jedec_progress` cite: the proofs work with them, and no public contract does.
-- Assumes nothing.
pub mod Progress
