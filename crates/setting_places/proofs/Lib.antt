-- Laws about the places and the fuses of settings.
-- Assumes nothing.
pub mod OnePlaceEach
pub mod AtPlace
pub mod Laws
