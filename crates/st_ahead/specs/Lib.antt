pub mod Ahead
pub mod Laws
pub mod Naming
pub mod NamingLaws
