-- The laws about fields of a text by position.
-- Assumes nothing.
pub mod Counts
pub mod StatesCounted
pub mod PlainBytes
pub mod BadLists
pub mod ListFields
pub mod Fields
