pub mod Exit
pub mod Listing
pub mod Answer
pub mod Making
pub mod Complete
pub mod Reading
pub mod Input
pub mod Running
