-- The definitions that the contracts of `setting_values` cite.
-- Assumes nothing.
pub mod Kinds
pub mod Operations
pub mod Cases
