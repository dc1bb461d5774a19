pub mod Finding
pub mod Matching
pub mod Opcodes
