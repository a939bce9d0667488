-- The definitions that the contracts of `jedec_end` cite: Verdict has those to believe, End those worked with.
-- Assumes nothing.
pub mod Verdict
pub mod End
