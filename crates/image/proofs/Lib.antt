-- The laws of `image` that belong to no one function.
-- Assumes nothing.
pub mod Bits
pub mod Pairs
pub mod Chunks
pub mod Counts
pub mod Checked
pub mod Numbers
pub mod Images
