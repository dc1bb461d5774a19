pub mod Blanks
pub mod Bytes
pub mod Cut
pub mod Cuts
pub mod Lines
pub mod Numerals
