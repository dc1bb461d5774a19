pub mod Canonical
pub mod Inside
pub mod Order
