pub mod Before
pub mod Bags
pub mod Threads
pub mod Fits
pub mod Laws
