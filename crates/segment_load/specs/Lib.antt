pub mod Loading
pub mod Wanted
pub mod Steps
pub mod Seen
