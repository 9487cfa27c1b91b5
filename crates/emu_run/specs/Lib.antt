pub mod Journal
pub mod Sending
pub mod Running
pub mod Turning
pub mod Schedule
pub mod View
pub mod Labels
