pub mod Answer
pub mod Frames
pub mod Threads
pub mod Endings
pub mod Standing
pub mod Running
