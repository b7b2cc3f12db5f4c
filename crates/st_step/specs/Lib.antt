pub mod Moves
pub mod Acts
pub mod Runs
pub mod Frames
pub mod Roles
