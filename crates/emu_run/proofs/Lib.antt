pub mod JournalFacts
pub mod SendFacts
pub mod TurnFacts
pub mod RunFacts
pub mod StartFacts
pub mod ScheduleFacts
pub mod RowsSimulate
pub mod EventsSimulate
