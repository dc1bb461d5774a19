pub mod Fault
pub mod Kind
