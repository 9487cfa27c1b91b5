pub mod TableFacts
