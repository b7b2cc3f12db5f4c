pub mod Below
pub mod Polling
pub mod Leaving
pub mod Root
pub mod Alone
pub mod Waiting
pub mod Coming
