-- Laws about the values of settings.
-- Assumes nothing.
pub mod Widths
pub mod Cases
pub mod Laws
