pub mod Walks
pub mod Firsts
