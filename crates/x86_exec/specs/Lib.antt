pub mod Steps
pub mod Reached
pub mod Shared
pub mod Kept
