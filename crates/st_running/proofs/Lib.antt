pub mod AtItem
pub mod Lines
pub mod Prologues
pub mod Calls
pub mod FramesLeft
pub mod LastItems
pub mod Epilogues
pub mod AllItems
