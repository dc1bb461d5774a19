pub mod Ahead
pub mod Copies
pub mod Fits
pub mod Going
pub mod New
pub mod Others
pub mod Turn
pub mod View
