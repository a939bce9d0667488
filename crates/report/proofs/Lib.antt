-- The laws about the report.
-- Assumes nothing.
pub mod Choice
pub mod Answers
pub mod Cases
pub mod Laws
