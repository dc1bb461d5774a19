pub mod Writes
pub mod Links
pub mod Rings
pub mod Reached
