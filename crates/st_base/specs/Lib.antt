pub mod Reg
pub mod Entry
pub mod EventKey
pub mod Registers
pub mod Slots
pub mod Outside
pub mod OutsideMemory
