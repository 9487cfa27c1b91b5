pub mod Texts
pub mod Block
pub mod Words
pub mod Placing
pub mod Contents
pub mod Found
