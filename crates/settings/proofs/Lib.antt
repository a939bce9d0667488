-- Laws about the definitions of `settings`.
-- Assumes nothing.
pub mod Arms
pub mod Order
pub mod FieldIndices
pub mod Numbering
pub mod Among
pub mod ListingOrder
pub mod CodeNumbers
pub mod Asked
pub mod Cases
pub mod Laws
