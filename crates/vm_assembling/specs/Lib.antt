pub mod Answers
pub mod Assembling
pub mod Refusing
