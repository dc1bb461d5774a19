pub mod Answers
pub mod Closing
pub mod Disks
pub mod Keeping
