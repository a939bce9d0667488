-- The definitions that the contracts of `addresses` cite, in document 01's order.
-- Assumes nothing.
pub mod Answer
pub mod Address
pub mod Convert
pub mod Cases
