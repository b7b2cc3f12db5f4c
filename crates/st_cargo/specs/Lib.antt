pub mod Cargo
