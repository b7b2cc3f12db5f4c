pub mod Heaps
pub mod Known
pub mod Told
pub mod Follows
pub mod Firsts
