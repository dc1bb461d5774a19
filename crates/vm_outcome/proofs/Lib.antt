mod Said
pub mod Frames
pub mod Orders
mod Ranges
pub mod Unloaded
