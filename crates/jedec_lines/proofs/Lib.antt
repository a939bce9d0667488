-- The laws that the proofs of `jedec_lines` cite, and those about lines that the writer needs.
-- Assumes nothing.
pub mod Words
pub mod Stored
pub mod Bits
pub mod Columns
pub mod FuseDigits
pub mod HexDigits
pub mod LineText
