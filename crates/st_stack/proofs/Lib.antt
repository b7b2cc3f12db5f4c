pub mod Frames
pub mod Turned
pub mod Laws
pub mod Trying
