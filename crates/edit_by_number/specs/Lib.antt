-- The definitions that the contracts of `edit_by_number` cite.
-- Assumes nothing.
pub mod ByNumber
pub mod Demand
