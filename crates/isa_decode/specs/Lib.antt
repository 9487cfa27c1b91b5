pub mod Fields
pub mod Groups
pub mod Listing
pub mod Ranges
