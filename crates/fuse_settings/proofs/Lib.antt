-- Laws about the setting at a fuse.
-- Assumes nothing.
pub mod CandidateInverse
pub mod OnFuses
pub mod Laws
pub mod NamedFuses
pub mod Unnamed
