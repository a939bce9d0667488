-- The laws of `differences` that belong to no one function.
-- Assumes nothing.
pub mod Ones
pub mod LaidText
pub mod Differing
pub mod LineTexts
pub mod Walks
pub mod Answers
pub mod Short
