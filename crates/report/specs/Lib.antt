-- The definitions that the contracts of `report` cite: which device a text is for, and what the bench program writes.
-- Assumes nothing.
pub mod Report
pub mod Cases
