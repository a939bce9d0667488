-- The laws of `xc9500` that belong to no one function.
-- Assumes nothing.
pub mod Words
pub mod Fitting
