-- The round trip of texts, and what the definitions of reading and setting give for document 01's case and for a call of each refusal.
-- Assumes nothing.
pub mod RoundTrips
pub mod Cases
pub mod Laws
