pub mod LineFacts
pub mod SoundFacts
