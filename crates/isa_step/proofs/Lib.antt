pub mod CallFacts
pub mod EffectFacts
pub mod KnownFacts
pub mod RunFacts
pub mod StayFacts
