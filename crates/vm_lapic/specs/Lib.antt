pub mod Apic
pub mod Command
pub mod Window
pub mod Saved
