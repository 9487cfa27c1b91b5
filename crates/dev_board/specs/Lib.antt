pub mod Board
pub mod Seen
