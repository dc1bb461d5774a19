pub mod Histories
pub mod Images
pub mod Home
pub mod Keeping
pub mod Holding
pub mod Reading
pub mod Going
