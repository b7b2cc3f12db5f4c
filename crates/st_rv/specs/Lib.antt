pub mod Op
pub mod Results
pub mod Fields
pub mod Rows
