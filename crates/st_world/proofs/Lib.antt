pub mod Functions
pub mod OfPlain
pub mod Opened
pub mod Untouched
