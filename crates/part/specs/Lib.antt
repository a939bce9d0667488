-- The definitions that the contracts of `part` cite, in document 01's order.
-- Assumes nothing.
pub mod Outcome
pub mod Device
pub mod Answer
pub mod Lowest
pub mod Place
pub mod Sizes
pub mod Words
pub mod Cases
