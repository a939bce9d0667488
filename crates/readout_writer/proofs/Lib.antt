-- The lemmas of `readout_writer` that belong to no one function.
-- Assumes nothing.
pub mod RowsOut
