pub mod Stepping
pub mod Keeping
pub mod Standing
pub mod Laid
pub mod Chains
pub mod Sparing
pub mod Going
