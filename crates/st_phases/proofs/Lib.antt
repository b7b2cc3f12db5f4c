pub mod Notes
pub mod Stacks
