pub mod Outcome
pub mod Number
pub mod Slot
pub mod Table
