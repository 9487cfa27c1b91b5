pub mod Words
pub mod Command
pub mod FirstWrong
pub mod Answer
pub mod Tail
