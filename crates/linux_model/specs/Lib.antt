pub mod Process
pub mod Steps
pub mod Following
pub mod Walker
