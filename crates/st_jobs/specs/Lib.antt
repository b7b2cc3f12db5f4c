pub mod Words
pub mod Values
pub mod Commands
pub mod Jobs
pub mod Form
pub mod ByClap
