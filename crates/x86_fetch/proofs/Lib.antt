pub mod Cached
pub mod Changes
pub mod Forgetting
pub mod Sharing
pub mod Steps
