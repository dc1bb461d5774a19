pub mod Quiet
pub mod Duties
pub mod Done
pub mod Ending
pub mod Resting
