pub mod Forward
pub mod Settled
pub mod Unread
pub mod Late
