-- The laws about digits, numbers and judged fields.
-- Assumes nothing.
pub mod Slices
pub mod DigitsRead
pub mod Numbers
