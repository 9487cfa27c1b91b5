pub mod Listing
pub mod Files
pub mod Changes
pub mod Loading
pub mod AllPaths
pub mod Storing
