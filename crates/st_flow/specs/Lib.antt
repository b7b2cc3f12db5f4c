pub mod Graph
pub mod Search
pub mod Order
pub mod Places
pub mod Tables
pub mod Undefined
pub mod Joined
