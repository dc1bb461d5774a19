pub mod Masks
pub mod Overflow
pub mod Digits
pub mod Moves
pub mod Integers
