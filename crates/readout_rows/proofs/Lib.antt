-- The lemmas of `readout_rows` that belong to no one function: sizes, bits above a width, and loops that store.
-- Assumes nothing.
pub mod RowSizes
pub mod CellsWithin
pub mod FirstOver
pub mod RowsAbove
pub mod Stores
