-- The laws of `cells` that belong to no one function.
-- Assumes nothing.
pub mod Laws
