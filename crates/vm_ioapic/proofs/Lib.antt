pub mod Loops
pub mod Sound
pub mod Stored
pub mod Words
