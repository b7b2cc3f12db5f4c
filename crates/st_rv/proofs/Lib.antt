pub mod Products
pub mod Apart
pub mod Masks
pub mod Table
