pub mod Fields
pub mod Grammar
pub mod Meaning
pub mod Operands
pub mod Rows
