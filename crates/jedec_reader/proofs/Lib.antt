-- The laws about the reader.
-- Assumes nothing.
pub mod GivenMore
pub mod Steps
pub mod Walks
