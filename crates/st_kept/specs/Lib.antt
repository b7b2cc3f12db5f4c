pub mod Keeping
pub mod Resting
pub mod Going
