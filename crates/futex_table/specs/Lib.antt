pub mod Sound
pub mod Waiters
