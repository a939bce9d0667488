-- The definitions that the contracts of `demand` cite.
-- Assumes nothing.
pub mod BothWays
pub mod Cases
