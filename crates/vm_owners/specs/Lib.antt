pub mod Owners
pub mod Turn
