pub mod Shifts
pub mod Changes
pub mod Chains
pub mod Exports
pub mod Held
