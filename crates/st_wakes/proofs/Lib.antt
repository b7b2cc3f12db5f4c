pub mod Turned
pub mod Bags
pub mod Seeing
pub mod Parked
pub mod Waking
pub mod Asking
pub mod Phases
