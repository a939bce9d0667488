-- The laws about states put into an image.
-- Assumes nothing.
pub mod WrittenStates
pub mod Pending
pub mod StatesPut
pub mod BitsPut
pub mod Images
pub mod ListedImages
pub mod Lengths
