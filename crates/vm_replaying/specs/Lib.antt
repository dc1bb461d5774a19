pub mod Answers
pub mod Files
pub mod Keeping
pub mod Refusing
