pub mod FutexFacts
pub mod PartFacts
pub mod PollFacts
pub mod Unready
pub mod WaitsOwe
