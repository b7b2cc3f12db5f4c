pub mod Cells
pub mod Laws
pub mod Waiters
pub mod Trying
