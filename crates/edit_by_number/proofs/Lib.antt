-- Laws about reading and setting by setting number and pattern.
-- Assumes nothing.
pub mod Laws
mod ByName
mod Rules
mod Asked
mod Demand
mod Literals
mod Usercode
