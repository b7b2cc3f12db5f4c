pub mod Sums
pub mod Changes
pub mod ViewsAfter
pub mod Moves
pub mod Follows
pub mod Steps
pub mod Firsts
pub mod Cautious
