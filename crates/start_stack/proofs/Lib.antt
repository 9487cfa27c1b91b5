pub mod ContentFacts
pub mod PlacedFacts
pub mod TextFacts
pub mod WordFacts
pub mod FoundFacts
