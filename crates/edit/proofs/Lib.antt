-- Laws about reading and setting.
-- Assumes nothing.
pub mod NotRefused
pub mod SameReadout
pub mod SameImage
pub mod ReadsAsSet
pub mod OthersAsBefore
pub mod ListedFuses
pub mod OtherFuses
pub mod ConversionsAccepted
pub mod Demand
pub mod Rules
pub mod Laws
