-- The laws of `values` that belong to no one function.
-- Assumes nothing.
pub mod Laws
pub mod Equal
