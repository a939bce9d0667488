-- The definitions that the contracts of `edit` cite, and demand 3.
-- Assumes nothing.
pub mod Edit
pub mod Demand
