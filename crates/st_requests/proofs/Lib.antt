pub mod Functions
pub mod Mails
pub mod ViewsAfter
pub mod Steps
pub mod Follows
pub mod Firsts
