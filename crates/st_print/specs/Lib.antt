pub mod Telling
pub mod Joined
pub mod Spots
pub mod Canonical
pub mod Numbering
pub mod Rereading
