-- The definitions that the contracts of `settings` cite, in document 01's order.
-- Assumes nothing.
pub mod Fields
pub mod Settings
pub mod Order
pub mod Answer
pub mod Operations
pub mod Cases
