pub mod Functions
pub mod World
pub mod Holders
pub mod OfPlain
pub mod Laws
