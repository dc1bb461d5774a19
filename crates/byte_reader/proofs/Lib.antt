pub mod Counted
pub mod Readers
pub mod Repeated
pub mod Texts
