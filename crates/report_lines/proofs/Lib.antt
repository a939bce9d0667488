-- The laws that the proofs of `report_lines` cite.
-- Assumes nothing.
pub mod PutBytes
