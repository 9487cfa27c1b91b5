pub mod PartFacts
pub mod BudgetFacts
pub mod TailFacts
pub mod WrongFacts
pub mod RefusalFacts
pub mod ReadFacts
pub mod FrontFacts
