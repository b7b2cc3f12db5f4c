pub mod Seeing
pub mod ViewsAfter
pub mod Words
pub mod Changes
pub mod States
pub mod Steps
pub mod Follows
pub mod Firsts
