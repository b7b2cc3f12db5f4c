pub mod Shape
pub mod Faults
pub mod Programs
pub mod Acceptance
pub mod Views
pub mod Reads
