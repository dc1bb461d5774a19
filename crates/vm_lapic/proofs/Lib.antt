pub mod Reserved
pub mod Registers
