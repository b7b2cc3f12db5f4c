pub mod Behind
pub mod Holding
pub mod Laws
