pub mod Lists
pub mod Stacks
pub mod Room
pub mod Items
pub mod Shrinking
pub mod Leaving
pub mod Coming
pub mod AllLaws
