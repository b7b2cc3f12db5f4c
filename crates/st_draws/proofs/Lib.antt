pub mod ViewsAfter
pub mod Numbers
pub mod Drawings
pub mod Steps
pub mod Follows
pub mod Firsts
