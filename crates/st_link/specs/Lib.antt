pub mod Refusal
pub mod Encoding
