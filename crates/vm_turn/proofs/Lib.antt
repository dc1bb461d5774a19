mod Places
mod Counts
mod Histories
mod Steps
pub mod Callers
