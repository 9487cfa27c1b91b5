pub mod Effects
pub mod Instruction
pub mod Known
pub mod Made
pub mod Running
