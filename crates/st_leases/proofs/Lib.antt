pub mod ViewsAfter
pub mod Steps
pub mod Follows
pub mod Firsts
