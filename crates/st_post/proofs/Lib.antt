pub mod ItemPlaces
pub mod ProgramLengths
pub mod SavedRegisters
pub mod WordCounts
