pub mod CauseFacts
pub mod LaunchFacts
pub mod AssemblyFacts
pub mod TopFacts
pub mod CompleteFacts
pub mod LawFacts
pub mod AnswerFacts
