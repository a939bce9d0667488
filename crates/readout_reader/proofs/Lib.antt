-- The lemmas of `readout_reader` that belong to no one function.
-- Assumes nothing.
pub mod Fields
pub mod Carried
pub mod RowsIn
