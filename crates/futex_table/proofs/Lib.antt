pub mod ListFacts
pub mod LoopFacts
pub mod HeldFacts
