pub mod FaultFacts
pub mod Mapped
pub mod QuietFacts
