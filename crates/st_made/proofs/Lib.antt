pub mod Making
pub mod Lists
pub mod Running
pub mod MadeRuns
pub mod Events
