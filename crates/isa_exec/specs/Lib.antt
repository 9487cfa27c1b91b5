pub mod Arithmetic
pub mod Execution
pub mod Registers
