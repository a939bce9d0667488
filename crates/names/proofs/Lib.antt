-- The laws of `names` that belong to no one function.
-- Assumes nothing.
pub mod WordBytes
pub mod Spelled
pub mod Words
pub mod Fields
pub mod Apart
pub mod AtFuse
pub mod Short
