-- The laws of `patterns` that belong to no one function.
-- Assumes nothing.
pub mod Laws
