pub mod Fault
pub mod Tokens
pub mod Registers
pub mod Operands
pub mod Words
pub mod Statement
pub mod Views
