pub mod Duties
pub mod Growing
pub mod Held
pub mod Pieces
