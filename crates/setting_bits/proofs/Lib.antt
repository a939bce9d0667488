-- Laws about the bits of settings in images and readouts.
-- Assumes nothing.
pub mod Locations
pub mod Edits
pub mod Steps
pub mod Usercode
pub mod AboveWidth
