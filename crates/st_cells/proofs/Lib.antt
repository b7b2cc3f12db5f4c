pub mod Staying
pub mod Waiters
pub mod Owners
pub mod Trying
