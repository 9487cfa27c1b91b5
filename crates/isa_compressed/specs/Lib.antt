pub mod Immediates
pub mod Expansion
