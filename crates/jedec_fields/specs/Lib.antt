-- The definitions that the contracts of `jedec_fields` cite: the proofs work with them, and no public contract does.
-- Assumes nothing.
pub mod Fields
