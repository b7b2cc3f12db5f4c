pub mod Lost
pub mod Waiters
pub mod Others
pub mod Threads
pub mod Names
pub mod Runs
pub mod Astray
