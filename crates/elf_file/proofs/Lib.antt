pub mod Faults
pub mod BelowFacts
pub mod PairFacts
pub mod SpanFacts
pub mod LoadFacts
pub mod NamedFacts
