pub mod Finding
pub mod Ids
pub mod Fitting
pub mod Sound
pub mod Index
pub mod Runs
pub mod Waking
pub mod Names
