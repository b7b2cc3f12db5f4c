pub mod Leasing
pub mod Laws
