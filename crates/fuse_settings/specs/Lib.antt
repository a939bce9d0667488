-- The definitions that the contract of `fuse_settings` cites. Back, the way from a fuse to its setting, is determined
-- by the laws `fuses_inverse` and `unnamed_iff`; Unnamed has how many fuses no setting has.
pub mod Back
pub mod Unnamed
pub mod Answer
pub mod Operations
pub mod Cases
