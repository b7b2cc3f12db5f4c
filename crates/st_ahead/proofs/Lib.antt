pub mod Seen
pub mod Bringing
pub mod Exporting
pub mod Named
