pub mod Progress
pub mod Queue
pub mod Steps
pub mod Sound
pub mod Starts
