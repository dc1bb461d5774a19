pub mod Entry
pub mod Ioapic
pub mod Pin
pub mod Register
pub mod Saved
