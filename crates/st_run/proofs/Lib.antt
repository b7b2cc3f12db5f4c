pub mod RunAsks
pub mod Opened
pub mod NextDefined
