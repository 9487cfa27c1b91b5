pub mod File
pub mod Programs
