pub mod Words
pub mod Ready
pub mod Laws
pub mod Trying
