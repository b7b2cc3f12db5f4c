pub mod Exported
pub mod Listing
pub mod Shrinking
pub mod FrameLaw
pub mod Trying
