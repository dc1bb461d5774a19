pub mod FileReads
pub mod Replays
pub mod Starting
pub mod Starts
