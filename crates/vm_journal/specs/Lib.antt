pub mod Reading
pub mod Refusing
pub mod Replaying
pub mod Spelling
pub mod Kind
