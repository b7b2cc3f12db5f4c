pub mod ViewsAfter
pub mod Keeping
pub mod Moves
pub mod Cells
pub mod Words
pub mod Slots
pub mod Steps
