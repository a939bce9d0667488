-- The laws of `readout` that belong to no one function; Laws has those that other crates and readers cite.
-- Assumes nothing.
pub mod Widths
pub mod States
pub mod Checked
pub mod Conversions
pub mod FirstAbove
pub mod Change
pub mod Laws
