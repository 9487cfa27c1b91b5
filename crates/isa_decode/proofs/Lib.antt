pub mod OpcodeFacts
pub mod RowFacts
pub mod WordFacts
