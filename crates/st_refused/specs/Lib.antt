pub mod Refutations
pub mod Unbacked
