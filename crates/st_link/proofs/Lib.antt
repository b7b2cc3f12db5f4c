mod Sizes
mod Rows
mod Distances
mod Ready
mod Near
mod PartsReady
mod ItemsReady
mod Assembled
mod Rest
pub mod FarLines
