-- The definitions that the contracts of `readout_rows`, `readout_writer` and `readout_reader` cite.
-- Assumes nothing.
pub mod Widths
