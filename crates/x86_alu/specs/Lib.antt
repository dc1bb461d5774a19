pub mod Operand
pub mod Flags
pub mod Arithmetic
pub mod Shift
pub mod Product
pub mod BitTest
