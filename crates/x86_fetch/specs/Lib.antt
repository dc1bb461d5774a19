pub mod Fetching
pub mod Kept
pub mod Sharing
pub mod Slices
