-- The definitions that the contracts of `setting_places` cite, in document 01's order; Places has those to believe.
-- Assumes nothing.
pub mod Places
pub mod Answer
pub mod Operations
pub mod Cases
