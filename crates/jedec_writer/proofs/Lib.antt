-- The laws that the proofs of `jedec_writer` cite; Laws lists what holds of the writer's text.
-- Assumes nothing.
pub mod Lines
pub mod Sizes
pub mod TextParts
pub mod Laws
