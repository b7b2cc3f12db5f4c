pub mod Items
pub mod Moves
pub mod Events
pub mod EventLaws
pub mod Laws
pub mod Runs
