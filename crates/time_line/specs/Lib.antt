pub mod Line
pub mod Sound
