pub mod Gate
pub mod Loading
pub mod Saving
