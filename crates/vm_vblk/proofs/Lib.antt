pub mod Asked
pub mod Bits
pub mod Writes
