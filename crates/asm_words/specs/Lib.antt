pub mod Blank
pub mod Label
pub mod Memory
pub mod Mnemonic
pub mod Number
pub mod Operand
pub mod Register
